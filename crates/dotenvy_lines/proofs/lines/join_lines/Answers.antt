use Rattle.std.proofs.Common.{rules, arith, ◌≡◌, ◌<◌, refl, ap, ℕ, List, [], length, false, string_bytes}
use Rattle.std.specs.Prelude.{string_len}
use Rattle.std.specs.Str.{chars}
use Rattle.std.proofs.lemmas.Str.{IsUtf8-string_bytes}
use Rattle.std.proofs.lemmas.Result.{err_from_is_err_and}
use Rattle.dotenvy_format.specs.PhysicalLines.{no_line_feed}
use Rattle.dotenvy_lines.specs.Input.{input_measure}
use Rattle.dotenvy_lines.specs.declared.physical_line.Taken.TheVariants.{Going as taken_going}
use Rattle.dotenvy_lines.specs.declared.physical_line.Taken.TheVariants.{Ended as taken_ended}
use Rattle.dotenvy_lines.specs.declared.physical_line.Taken.TheVariants.{Comment as taken_comment}
use Rattle.dotenvy_lines.specs.declared.physical_line.Taken.TheVariants.{Broken as taken_broken}
use Rattle.dotenvy_base.proofs.Basics.{tested_empty, tested_some}
use Rattle.std.proofs.lemmas.Bool.{MatchBool-at_false}
use Rattle.dotenvy_lines.proofs.LineJoins.{joining_empty, rest_of, line_joined, joining_none, open_at_end}
use Rattle.dotenvy_lines.proofs.LineJoins.{joining_finish, joining_fails}
use Rattle.dotenvy_lines.proofs.AskedReads.{asks_none, asks_more, asks_on, asks_weaker, asks_failed}
use Rattle.dotenvy_lines.proofs.lines.join_lines.Goals as goal
use Rattle.dotenvy_lines.proofs.lines.join_lines.Goals.{then-is_empty}
use Rattle.dotenvy_lines.proofs.lines.join_lines.Goals.{else-is_empty+in-Outside}
use Rattle.dotenvy_lines.proofs.lines.join_lines.Goals.{else-is_empty+in_default-2}

pub joining-init : goal.joining-init
joining-init g c = (
  omega arith,
  λ some. absurd (some (search rules)),
  λ a told. joining_empty (search rules) told,
  asks_none _ c.args.input.now c.args.input.now refl refl refl refl,
)

pub returns-in_err-has_more-clause-told : goal.returns-in_err-has_more-clause-told
returns-in_err-has_more-clause-told g c = λ a told.
    let t = c.joining.input in
    let e = c.in_err-has_more.field-0.0 in
    let j = c.joining.invariant.2 a told in
    let p = err_from_is_err_and c.from_residual.result c.from_residual.ensures.1 in
    rw (p.1, p.2) (joining_fails {v = t} c.has_more.new.self e j
    (record { left = j.told.0; fits = omega arith })
    (λ (bytes : List ℕ) (none : bytes ≡ []). ap no_line_feed none)
    (c.in_err-has_more.ensures.told (rest_of j) j.told))

pub returns-in_err-has_more-clause-asks : goal.returns-in_err-has_more-clause-asks
returns-in_err-has_more-clause-asks g c =
    asks_failed _ _ _ _ c.from_residual.result c.from_residual.ensures.1
    (asks_more _ _ c.args.input.now c.joining.input c.has_more.new.self c.joining.invariant.3 tt
    c.in_err-has_more.ensures.asks)

pub returns-then-not-branch-clause-told : goal.returns-then-not-branch-clause-told
returns-then-not-branch-clause-told g c = λ a told.
    let text = string_bytes c.joining.text in
    let u = IsUtf8-string_bytes c.joining.text in
    let len : string_len c.joining.text ≡ length text = search rules in
    let j = c.joining.invariant.2 a told in
    let found = c.in_ok-has_more.ensures.told (rest_of j) j.told in
    let none = MatchBool-at_false {b = c.in_ok-has_more.field-0} _ _ c.if-not-branch.true found.2 in
    let finish = λ (some : c.is_empty.result ≡ false).
    joining_finish {v = c.has_more.new.self} text c.joining.mode u
    (tested_some text _ c.is_empty.result c.is_empty.ensures len some).1 j (record { left = found.0; fits = found.1 })
    (none.1, none.0, none.2) in
    elim c.if-is_empty.branch [
      | then-is_empty w ↦
          let empty = tested_empty text _ c.is_empty.result c.is_empty.ensures len w.if-is_empty.true in
          let all = joining_none text empty j none.0 in
          rw w.result-is (all.0, (all.1, none.1), all.2)
      | else-is_empty+in-Outside w ↦ rw w.result-is (rw w.in-Outside.is at (finish w.if-is_empty.false))
      | else-is_empty+in_default-2 w ↦
          let is_open = open_at_end c.joining.mode text w.in_default-2.not-Outside u in
          rw w.result-is (rw is_open at (finish w.if-is_empty.false))
    ]

pub returns-then-not-branch-clause-asks : goal.returns-then-not-branch-clause-asks
returns-then-not-branch-clause-asks g c =
    asks_on _ _ _ _ c.joining.invariant.3 c.in_ok-has_more.ensures.asks

pub returns-in_err-taken-clause-told : goal.returns-in_err-taken-clause-told
returns-in_err-taken-clause-told g c = λ a told.
    let e = c.in_err-taken.field-0.0 in
    let j = c.joining.invariant.2 a told in
    let found = c.in_ok-has_more.ensures.told (rest_of j) j.told in
    let p = err_from_is_err_and c.from_residual-in_err-taken.result c.from_residual-in_err-taken.ensures.1 in
    rw (p.1, p.2) (joining_fails c.take_line.new.input e j (record { left = found.0; fits = found.1 })
    (λ bytes none. none) (c.in_err-taken.ensures.told (rest_of j) (found.0, told.1)))

pub returns-in_err-taken-clause-asks : goal.returns-in_err-taken-clause-asks
returns-in_err-taken-clause-asks g c =
    asks_failed _ _ _ _ c.from_residual-in_err-taken.result c.from_residual-in_err-taken.ensures.1
    (asks_more (Unit {0}) _ c.args.input.now c.has_more.new.self c.take_line.new.input
    (asks_on _ _ _ _ c.joining.invariant.3 c.in_ok-has_more.ensures.asks) tt c.in_err-taken.ensures.asks)

pub joining-preserved : goal.joining-preserved
joining-preserved g c =
    let below : input_measure c.take_line.new.input < input_measure c.args.input.now =
    omega (arith, c.in_ok-taken.ensures.falls, c.in_ok-has_more.ensures.falls, c.joining.invariant.0) in (
      omega (arith, below),
      λ some. below,
      λ a told.
          let u = c.take_line.new in
          line_joined c.has_more.new.self u.input (chars (string_bytes u.text)) (taken_going c.in-Going.next)
          (c.joining.invariant.2 a told) c.in_ok-has_more.ensures.told (rw c.in-Going.is at c.in_ok-taken.ensures.told)
          c.saturating_add.ensures,
      asks_more (Unit {0}) _ c.args.input.now c.has_more.new.self c.take_line.new.input
          (asks_on _ _ _ _ c.joining.invariant.3 c.in_ok-has_more.ensures.asks) tt
          (asks_weaker _ _ _ _ (λ goes. refl) c.in_ok-taken.ensures.asks),
    )

pub returns-in-Ended-clause-told : goal.returns-in-Ended-clause-told
returns-in-Ended-clause-told g c = λ a told.
    let u = c.take_line.new in
    line_joined c.has_more.new.self u.input (chars (string_bytes u.text)) taken_ended (c.joining.invariant.2 a told)
    c.in_ok-has_more.ensures.told (rw c.in-Ended.is at c.in_ok-taken.ensures.told) c.saturating_add.ensures

pub returns-in-Ended-clause-asks : goal.returns-in-Ended-clause-asks
returns-in-Ended-clause-asks g c =
    asks_on _ _ _ _ (asks_on _ _ _ _ c.joining.invariant.3 c.in_ok-has_more.ensures.asks) c.in_ok-taken.ensures.asks

pub returns-in-Comment-clause-told : goal.returns-in-Comment-clause-told
returns-in-Comment-clause-told g c = λ a told.
    let u = c.take_line.new in
    let n =
    line_joined c.has_more.new.self u.input (chars (string_bytes u.text)) taken_comment (c.joining.invariant.2 a told)
    c.in_ok-has_more.ensures.told (rw c.in-Comment.is at c.in_ok-taken.ensures.told) c.saturating_add.ensures in
    (n.0, (c.clear-in-Comment.ensures.bytes, n.1), n.2)

pub returns-in-Comment-clause-asks : goal.returns-in-Comment-clause-asks
returns-in-Comment-clause-asks g c =
    asks_on _ _ _ _ (asks_on _ _ _ _ c.joining.invariant.3 c.in_ok-has_more.ensures.asks) c.in_ok-taken.ensures.asks

pub returns-in-Broken-clause-told : goal.returns-in-Broken-clause-told
returns-in-Broken-clause-told g c = λ a told.
    let u = c.take_line.new in
    line_joined c.has_more.new.self u.input (chars (string_bytes u.text)) taken_broken (c.joining.invariant.2 a told)
    c.in_ok-has_more.ensures.told (rw c.in-Broken.is at c.in_ok-taken.ensures.told) c.saturating_add.ensures

pub returns-in-Broken-clause-asks : goal.returns-in-Broken-clause-asks
returns-in-Broken-clause-asks g c =
    asks_on _ _ _ _ (asks_on _ _ _ _ c.joining.invariant.3 c.in_ok-has_more.ensures.asks) c.in_ok-taken.ensures.asks
