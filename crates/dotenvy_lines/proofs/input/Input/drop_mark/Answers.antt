use Rattle.std.proofs.Common.{arith, rules, refl, sym, ◌∙◌, ◌≡◌, ◌⊎◌, inl, inr, length, take, true, false}
use Rattle.std.proofs.lemmas.Bool.Decides.{nat_tests}
use Rattle.std.proofs.lemmas.Result.{err_from_is_err_and}
use Rattle.std.specs.Prelude.{nat_eq}
use Rattle.std.specs.List.{starts_with}
use Rattle.dotenvy_format.specs.Marks.{byte_order_mark}
use Rattle.dotenvy_lines.specs.Input.{begins_mark}
use Rattle.dotenvy_lines.specs.inside.InputSteps.{IsAllRead}
use Rattle.dotenvy_lines.proofs.Inputs.{moves_none, moves_read, final_behind, told_behind, read_front}
use Rattle.dotenvy_lines.proofs.Inputs.{mark_test, mark_dropped}
use Rattle.dotenvy_lines.proofs.AskedReads.{asks_none, asks_on, asks_ends}
use Rattle.dotenvy_lines.proofs.input.Input.drop_mark.Goals as goal
use Rattle.dotenvy_lines.proofs.input.Input.drop_mark.Goals.{then-deciding-test+then-unread-lt3+else-starts_with}
use Rattle.dotenvy_lines.proofs.input.Input.drop_mark.Goals.{then-deciding-test+else-unread-lt3}
use Rattle.dotenvy_lines.proofs.input.Input.drop_mark.Goals.{else-deciding-test}
use Rattle.dotenvy_lines.proofs.input.Input.drop_mark.Goals.{then-starts_with-2, else-starts_with-2}

pub deciding-init : goal.deciding-init
deciding-init g c = (omega arith, λ a told. moves_none a _ told.0, asks_none _ _ _ refl refl refl refl)

pub deciding-preserved : goal.deciding-preserved
deciding-preserved g c = (
  omega (arith, c.in_ok-read_more.ensures.falls, c.deciding.invariant.0),
  λ a told. moves_read told (c.deciding.invariant.1 a told) c.in_ok-read_more.ensures.told,
  asks_on _ _ _ _ c.deciding.invariant.2 c.in_ok-read_more.ensures.asks,
)

pub returns-in_err-read_more-clause-told : goal.returns-in_err-read_more-clause-told
returns-in_err-read_more-clause-told g c = λ a told.
    let p = err_from_is_err_and c.from_residual.result c.from_residual.ensures.1 in
    let m = c.deciding.invariant.1 a told in
    let unread = c.unread-then-unread-lt3 in
    let begins : begins_mark (take c.deciding.self.unread a.bytes) ≡ true =
    rw (← unread.ensures.told a m.is_left) (grind (
      arith,
      nat_tests,
      unread.ensures.len,
      c.unread.ensures.len,
      c.if-unread-lt3.true,
      c.starts_with.ensures.value,
      c.if-starts_with.true,
    )) in
    rw (p.1, p.2) (final_behind _ (λ bytes. length bytes ≡ c.deciding.self.unread)
    (λ bytes. begins_mark bytes ≡ true) c.in_err-read_more.field-0.0 m
    (λ front later cut read. rw (← read_front a.bytes front later _ cut read) begins)
    (c.in_err-read_more.ensures.told _ (told_behind told m)))

pub returns-clause-told : goal.returns-clause-told
returns-clause-told g c = λ a told.
    let m = c.deciding.invariant.1 a told in
    let unread = c.unread-2.ensures.told a m.is_left in
    let decided : IsAllRead a c.deciding.self.unread ⊎ (begins_mark (take c.deciding.self.unread a.bytes) ≡ false) =
    elim c.deciding-test.branch [
      | then-deciding-test+then-unread-lt3+else-starts_with w ↦
          inr (rw (← w.unread-then-unread-lt3.ensures.told a m.is_left) (grind (
            arith,
            nat_tests,
            w.starts_with.ensures.value,
            w.if-starts_with.false,
          )))
      | then-deciding-test+else-unread-lt3 w ↦
          inr (rw (← w.unread.ensures.told a m.is_left) (grind (arith, nat_tests, w.if-unread-lt3.false)))
      | else-deciding-test w ↦ inl (c.is_at_end.ensures.told a m.is_left (search rules))
    ] in
    let test = rw (← unread) at (mark_test c.deciding.self.unread a decided) in
    let is : c.starts_with-2.result ≡ starts_with nat_eq a.bytes byte_order_mark =
    c.starts_with-2.ensures.value ∙ sym test in
    elim c.if-starts_with-2.branch [
      | then-starts_with-2 w ↦
          rw (w.self-is, w.use_up.ensures) (mark_dropped m (sym is ∙ w.if-starts_with-2.true) (grind (
            arith,
            c.starts_with-2.ensures.bound,
            w.if-starts_with-2.true,
            c.unread-2.ensures.len,
          )))
      | else-starts_with-2 w ↦ rw (w.self-is, sym is ∙ w.if-starts_with-2.false) (m.is_left, m.reads)
    ]

pub returns-in_err-read_more-clause-asks : goal.returns-in_err-read_more-clause-asks
returns-in_err-read_more-clause-asks g c =
    asks_ends _ _ c.from_residual.ensures.1 c.deciding.invariant.2 c.in_err-read_more.ensures.asks
