use Rattle.std.proofs.Common.{rules, arith, length, refl, sym, ap, ◌∙◌}
use Rattle.dotenvy_base.proofs.Basics.{tested_empty}
use Rattle.dotenvy_items.proofs.LineLoads.{nothing_loaded}
use Rattle.std.proofs.lemmas.Grind.{common_steps}
use Rattle.dotenvy_lines.proofs.LinesRead.{answers}
use Rattle.dotenvy_items.proofs.LoadSteps.{came_start, came_line, asks_next}
use Rattle.dotenvy_items.proofs.StoppedLoads.{line_stops, fault_stops, none_stops, mark_stops}
use Rattle.dotenvy_items.proofs.iter.Iter.load_each_line.Goals as goal

pub returns-in_err-drop_mark-clause-loads : goal.returns-in_err-drop_mark-clause-loads
returns-in_err-drop_mark-clause-loads g c =
    mark_stops c.drop_mark.new.self.lines c.in_err-drop_mark.field-0.0 (rw (← c.reading.view_is) at c.self.view_is)
    c.in_err-drop_mark.ensures.told c.in_err-drop_mark.ensures.err c.from_residual.ensures.1

pub loading-init : goal.loading-init
loading-init g c = rw (← c.self.view_is, ← c.reading.view_is) (record {
  shut = λ shut. search rules;
  came =
      came_start g.row.A.Denot c.in_ok-drop_mark.ensures.ok c.in_ok-drop_mark.ensures.counts.0
      c.in_ok-drop_mark.ensures.told;
  mode = refl;
  keeps = search rules;
  changes = search rules;
  same = refl;
  falls = c.in_ok-drop_mark.ensures.falls;
  asks = c.in_ok-drop_mark.ensures.asks;
})

pub loading-preserved : goal.loading-preserved
loading-preserved g c = record {
  shut = λ shut. absurd (search rules);
  came =
      came_line c.loading.invariant.came (answers c.in-Some.ensures.shut c.in-Some.ensures.told) c.in_ok-outcome.was
      c.loading.invariant.same
      (rw (c.line-in-Some.ensures, c.loading.invariant.mode) at c.in_ok-load_line.ensures.loads);
  mode = cc;
  keeps = grind (arith, common_steps);
  changes = grind (arith, common_steps);
  same = search rules;
  falls = search rules;
  asks = asks_next c.loading.invariant.asks c.in-Some.ensures.shut c.in-Some.ensures.asks;
}

pub loading-preserved-then-is_empty : goal.loading-preserved-then-is_empty
loading-preserved-then-is_empty g c =
    let text = c.line.result.now in
    let none = tested_empty text (length text) c.is_empty.result c.is_empty.ensures refl c.if-is_empty.true in record {
      shut = λ shut. absurd (search rules);
      came =
          came_line c.loading.invariant.came (answers c.in-Some.ensures.shut c.in-Some.ensures.told) c.in_ok-outcome.was
          c.loading.invariant.same (nothing_loaded _ _ c.advance.new.self.line (sym c.line.ensures ∙ none));
      mode = c.loading.invariant.mode;
      keeps = c.loading.invariant.keeps;
      changes = c.loading.invariant.changes;
      same = search rules;
      falls = search rules;
      asks = asks_next c.loading.invariant.asks c.in-Some.ensures.shut c.in-Some.ensures.asks;
    }

pub returns-in_err-outcome-clause-loads : goal.returns-in_err-outcome-clause-loads
returns-in_err-outcome-clause-loads g c =
    let item_lines = ap (λ s. s.item_lines) c.self.view_is in
    rw item_lines (fault_stops c.loading.invariant.came (answers c.in-Some.ensures.shut c.in-Some.ensures.told)
    c.in_err-outcome.was c.loading.invariant.same c.from_residual-in_err-outcome.ensures.1)

pub returns-in_err-load_line-clause-loads : goal.returns-in_err-load_line-clause-loads
returns-in_err-load_line-clause-loads g c =
    let item_lines = ap (λ s. s.item_lines) c.self.view_is in
    rw item_lines (line_stops c.loading.invariant.came (answers c.in-Some.ensures.shut c.in-Some.ensures.told)
    c.in_ok-outcome.was c.loading.invariant.same
    (rw (c.line-in-Some.ensures, c.loading.invariant.mode) at c.in_err-load_line.ensures.loads)
    c.from_residual-in_err-load_line.ensures.1)

pub returns-clause-loads : goal.returns-clause-loads
returns-clause-loads g c =
    let item_lines = ap (λ s. s.item_lines) c.self.view_is in
    rw item_lines (none_stops c.loading.invariant.came (answers c.in_default.ensures.shut c.in_default.ensures.told)
    c.loading.invariant.same)

pub returns-clause-shut : goal.returns-clause-shut
returns-clause-shut g c = λ shut.
    let was = c.loading.invariant.shut shut in
    let after = (c.in_default.ensures.shut (λ is_open. shut (rw was.0 at is_open))).1 in
    let item_lines = ap (λ s. s.item_lines) c.self.view_is in
    (refl, rw (after, was.0, item_lines) (rw was.0 at c.loading.invariant.same), was.1)

pub returns-in_err-outcome-clause-asks : goal.returns-in_err-outcome-clause-asks
returns-in_err-outcome-clause-asks g c =
    asks_next c.loading.invariant.asks c.in-Some.ensures.shut c.in-Some.ensures.asks

pub returns-in_err-load_line-clause-asks : goal.returns-in_err-load_line-clause-asks
returns-in_err-load_line-clause-asks g c =
    asks_next c.loading.invariant.asks c.in-Some.ensures.shut c.in-Some.ensures.asks

pub returns-clause-asks : goal.returns-clause-asks
returns-clause-asks g c =
    asks_next c.loading.invariant.asks c.in_default.ensures.shut c.in_default.ensures.asks
