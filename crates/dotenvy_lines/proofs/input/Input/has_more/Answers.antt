use Rattle.std.proofs.Common.{arith, rules, refl, ◌∙◌, ◌≡◌, length}
use Rattle.std.proofs.lemmas.Bool.Decides.{nat_tests}
use Rattle.std.proofs.lemmas.Result.{err_from_is_err_and}
use Rattle.dotenvy_base.proofs.Basics.{nil_of}
use Rattle.dotenvy_lines.proofs.Inputs.{moves_none, moves_read, final_behind, some-or-none, told_behind}
use Rattle.dotenvy_lines.proofs.AskedReads.{asks_none, asks_on, asks_ends}
use Rattle.dotenvy_lines.proofs.input.Input.has_more.Goals as goal
use Rattle.dotenvy_lines.proofs.input.Input.has_more.Goals.{then-waiting-test+else-not-is_at_end, else-waiting-test}

pub waiting-init : goal.waiting-init
waiting-init g c =
    (omega arith, λ a told. moves_none a _ told.0, asks_none _ _ _ refl refl refl refl, λ ended. refl)

pub waiting-preserved : goal.waiting-preserved
waiting-preserved g c = (
  omega (arith, c.in_ok-read_more.ensures.falls, c.waiting.invariant.0),
  λ a told. moves_read told (c.waiting.invariant.1 a told) c.in_ok-read_more.ensures.told,
  asks_on _ _ _ _ c.waiting.invariant.2 c.in_ok-read_more.ensures.asks,
  λ ended.
      let same = c.waiting.invariant.3 ended in
      grind (arith, same, c.is_at_end.ensures.value, c.if-not-is_at_end.true),
)

pub returns-in_err-read_more-clause-told : goal.returns-in_err-read_more-clause-told
returns-in_err-read_more-clause-told g c = λ a told.
    let p = err_from_is_err_and c.from_residual.result c.from_residual.ensures.1 in
    let m = c.waiting.invariant.1 a told in
    let none : c.waiting.self.unread ≡ 0 =
    grind (arith, nat_tests, c.is_empty.ensures, c.unread.ensures.len, c.waiting-test.true) in
    rw (p.1, p.2) (final_behind _ (λ bytes. length bytes ≡ c.waiting.self.unread) _ c.in_err-read_more.field-0.0 m
    (λ front later cut read. nil_of front (read ∙ none))
    (c.in_err-read_more.ensures.told _ (told_behind told m)))

pub returns-in_err-read_more-clause-asks : goal.returns-in_err-read_more-clause-asks
returns-in_err-read_more-clause-asks g c =
    asks_ends _ _ c.from_residual.ensures.1 c.waiting.invariant.2 c.in_err-read_more.ensures.asks

pub returns-clause-told : goal.returns-clause-told
returns-clause-told g c = λ a told.
    let m = c.waiting.invariant.1 a told in (
      m.is_left,
      m.reads,
      some-or-none c.is_empty-2.result c.is_empty-2.ensures c.unread-2.ensures.len (λ none. elim c.waiting-test.branch [
        | then-waiting-test+else-not-is_at_end w ↦
            let all = w.is_at_end.ensures.told a m.is_left (search rules) in
            (nil_of a.bytes (all.0 ∙ none), all.1, cc)
        | else-waiting-test w ↦
            absurd (grind (arith, nat_tests, c.is_empty.ensures, c.unread.ensures.len, w.waiting-test.false))
      ]),
    )
