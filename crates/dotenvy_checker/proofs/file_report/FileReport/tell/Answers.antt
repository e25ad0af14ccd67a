use Rattle.std.proofs.Common.{◌∙◌, ap, refl, sym}
use Rattle.dotenvy_checker.specs.Checks.{both}
use Rattle.dotenvy_checker.specs.inside.CheckedLines.{remark_of}
use Rattle.dotenvy_checker.proofs.ToldOne.{hidden_one, keeps_behind, keeps_looked, on_err, shown_one}
use Rattle.dotenvy_checker.proofs.file_report.FileReport.tell.Goals as goal

pub returns-in_err-move_below-clause-refused : goal.returns-in_err-move_below-clause-refused
returns-in_err-move_below-clause-refused g c =
    on_err c.from_residual.result (keeps_looked c.args.self.now c.move_below.new.self)

pub returns-in_err-push-clause-refused : goal.returns-in_err-push-clause-refused
returns-in_err-push-clause-refused g c =
    on_err c.from_residual-in_err-push.result
    (keeps_behind c.args.self.now c.bad_at.new.self c.in_err-push.ensures.refused)

pub returns-then-not-is_told-clause-told : goal.returns-then-not-is_told-clause-told
returns-then-not-is_told-clause-told g c =
    hidden_one c.args.self.now (record (remark_of c.args.pending.now) { finding = c.args.finding }) c.args.seen.now
    c.move_below.new.self c.in_ok-move_below.ensures.moves (sym c.is_told.ensures ∙ c.if-not-is_told.true)

pub returns-clause-told : goal.returns-clause-told
returns-clause-told g c =
    shown_one c.args.seen.now c.move_below.new.self c.bad_at.new.self c.in_ok-move_below.ensures.moves
    (sym c.is_told.ensures ∙ c.if-not-is_told.false) c.bad_at.ensures.above
    (rw (c.bad_at.ensures.bad, c.in_ok-move_below.ensures.bad) at c.placed-placed.ensures) refl
    (rw c.as_str.ensures.value at c.in_ok-push.ensures.told) refl (c.and-self.ensures ∙ ap (both _) c.of.ensures)
