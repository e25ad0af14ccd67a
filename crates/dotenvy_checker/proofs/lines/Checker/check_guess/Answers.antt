use Rattle.std.proofs.Common.{sym, ◌∙◌, ◌+◌, ◌-◌}
use Rattle.std.specs.Str.{chars}
use Rattle.dotenvy_checker.proofs.Guesses.{guess_comment, guess_one}
use Rattle.dotenvy_checker.proofs.lines.Checker.check_guess.Goals as goal

pub returns-in_ok-check_part-in-Some-clause-checks : goal.returns-in_ok-check_part-in-Some-clause-checks
returns-in_ok-check_part-in-Some-clause-checks g c =
    guess_one c.args.line (chars c.args.text.now) (sym c.in_ok-is_passed.ensures ∙ c.if-branch.false) c.in-Some.ensures
    c.requires (c.in_ok-check_part-in-Some.ensures (c.args.line.number + 1 - 1))

pub returns-in-None-clause-checks : goal.returns-in-None-clause-checks
returns-in-None-clause-checks g c =
    guess_comment c.args.line.number (chars c.args.text.now) (sym c.in_ok-is_passed.ensures ∙ c.if-branch.false)
    c.in-None.ensures
