use Rattle.std.proofs.Common.{false, refl}
use Rattle.dotenvy_checker.proofs.Wholes.{failed_broken, whole_broken}
use Rattle.dotenvy_checker.proofs.lines.Checker.check_fault.Goals as goal

pub returns-in-LineParse : goal.returns-in-LineParse
returns-in-LineParse g c =
    rw (c.in-LineParse.is, ← c.as_str.ensures.value) (c.check_whole.ensures c.args.last)

pub returns-in_ok-keep-in_default : goal.returns-in_ok-keep-in_default
returns-in_ok-keep-in_default g c =
    rw (failed_broken c.args.error.now c.in_default.not-LineParse)
    (whole_broken (record { number = c.args.number; is_guess = false }) c.args.last refl
    (rw c.begins_at.ensures at c.in_ok-keep-in_default.ensures))
