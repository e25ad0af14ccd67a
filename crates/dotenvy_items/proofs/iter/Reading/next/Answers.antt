use Rattle.std.proofs.Common.{rules, ◌≡◌, ◌≢◌, ℕ, List, [], sym, refl, ◌∙◌}
use Rattle.std.proofs.lemmas.Option.{none-some}
use Rattle.dotenvy_base.specs.Source.{Ahead}
use Rattle.dotenvy_format.specs.Entries.{Entry}
use Rattle.dotenvy_lines.specs.declared.lines.Stage.TheVariants.{Open}
use Rattle.dotenvy_lines.specs.Input.{AsksReads, IsTold}
use Rattle.dotenvy_lines.specs.Reading.{HasEntriesLeft}
use Rattle.dotenvy_items.specs.inside.Reading.{reads_on}
use Rattle.dotenvy_lines.proofs.AskedReads.{asks_none, asks_weaker}
use Rattle.dotenvy_items.proofs.LoadSteps.{asks_next}
use Rattle.dotenvy_lines.proofs.LinesRead.{answers, entries_left, read_end}
use Rattle.dotenvy_lines.proofs.LineEntries.{left_exists, left_once, left-none}
use Rattle.dotenvy_items.proofs.NextItems.{LeadsTo, next_leads, passed_none}
use Rattle.dotenvy_items.proofs.iter.Reading.next.Given as given
use Rattle.dotenvy_items.proofs.iter.Reading.next.Goals as goal
use Rattle.dotenvy_items.proofs.iter.Reading.next.Goals.{After-is_some}

-- lines that were not open at first give no line
shut_gives : (g : given.Over) (c : After-is_some g) → c.args.self.now.lines.stage ≢ Open → ⊥
shut_gives g c shut =
    let same = c.lines.invariant.shut shut in
    none-some c.in-Some.outcome (sym (c.in-Some.ensures.shut (λ opened. shut cc)).0)

-- what the line that was taken leads to
leads : (g : given.Over) (c : After-is_some g) (before : ℕ × ℕ) (a : Ahead) (entries : List Entry) →
    c.args.self.now.lines.stage ≡ Open → IsTold c.args.self.now.lines.input.left a →
    HasEntriesLeft c.args.self.now.dialect a.fault a.bytes entries →
    LeadsTo c.args.env.now.names a (reads_on c.args.self.now before) entries c.item_of-item.result
    c.item_of-item.new.self.lines c.item_of-item.new.self.remembered
leads g c before a entries is_open told has =
    let invariant = rw (← c.self.view_is) at c.lines.invariant in
    let (passed, same) = invariant.passed is_open a told in
    next_leads told has passed c.in-Some.outcome c.advance.new.self c.item_of-item.new.self
    (answers c.in-Some.ensures.shut c.in-Some.ensures.told)
    (rw (same, invariant.dialect) at c.item_of-item.ensures.adds)

-- which reads the line that was taken asks for
asks : (g : given.Over) (c : After-is_some g) →
    AsksReads (c.item_of-item.new.self.lines.stage ≡ Open) c.args.self.now.lines.input
    c.item_of-item.new.self.lines.input
asks g c =
    let invariant = rw (← c.self.view_is) at c.lines.invariant in
    rw c.item_of-item.ensures.input (asks_weaker _ _ _ _ c.item_of-item.ensures.stage
    (asks_next invariant.asks c.in-Some.ensures.shut c.in-Some.ensures.asks))

pub lines-init : goal.lines-init
lines-init g c = record {
  falls = search rules;
  shut = λ shut. refl;
  passed = λ is_open a told. (passed_none told.0 is_open, refl);
  dialect = refl;
  asks = asks_none _ c.args.self.now.lines.input c.args.self.now.lines.input refl refl refl refl;
}

pub returns-then-is_some-clause-next : goal.returns-then-is_some-clause-next
returns-then-is_some-clause-next g c = λ before.
    let after = (goal.at.returns-then-is_some-clause-next g c).After-is_some in
    let invariant = rw (← c.self.view_is) at c.lines.invariant in (
      λ is_open a told entries has.
          rw (c.item_of-item.ensures.dialect, invariant.dialect)
          ((leads g after before a entries is_open told has).gives (sym c.is_some.ensures ∙ c.if-is_some.true)),
      λ shut. absurd (shut_gives g after shut),
    )

pub lines-preserved : goal.lines-preserved
lines-preserved g c =
    let after = (goal.at.lines-preserved g c).After-is_some in
    let invariant = rw (← c.self.view_is) at c.lines.invariant in record {
      falls = search rules;
      shut = λ shut. absurd (shut_gives g after shut);
      passed = λ is_open a told.
          let has = left_exists c.args.self.now.dialect a.fault a.bytes in
          (leads g after (0, 0) a has.0 is_open told has.1).passes (sym c.is_some.ensures ∙ c.if-is_some.false);
      dialect = c.item_of-item.ensures.dialect ∙ invariant.dialect;
      asks = asks g after;
    }

pub returns-clause-next : goal.returns-clause-next
returns-clause-next g c = λ before.
    let invariant = rw (← c.self.view_is) at c.lines.invariant in (
      λ is_open a told entries has.
          let (passed, same) = invariant.passed is_open a told in
          let after = entries_left passed.read entries has in
          let e = read_end told passed.read (answers c.in_default.ensures.shut c.in_default.ensures.told) in
          let none = left_once _ a.fault passed.read.left after.0 [] after.1 (left-none _ a.fault passed.read.left e.0 e.1) in
          ((rw passed.nothing at after.2) ∙ none, e.1, e.2, refl),
      λ shut.
          let same = invariant.shut shut in
          let end = c.in_default.ensures.shut (λ opened. shut cc) in (refl, rw (end.1, ← same)),
    )

pub returns-then-is_some-clause-asks : goal.returns-then-is_some-clause-asks
returns-then-is_some-clause-asks g c = asks g (goal.at.returns-then-is_some-clause-asks g c).After-is_some

pub returns-clause-asks : goal.returns-clause-asks
returns-clause-asks g c =
    let invariant = rw (← c.self.view_is) at c.lines.invariant in
    asks_next invariant.asks c.in_default.ensures.shut c.in_default.ensures.asks
