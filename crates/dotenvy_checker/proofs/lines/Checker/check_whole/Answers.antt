use Rattle.std.proofs.Common.{false, refl}
use Rattle.std.proofs.lemmas.Str.{encodes-chars}
use Rattle.dotenvy_checker.specs.inside.CheckedLines.{logical_of}
use Rattle.dotenvy_checker.proofs.Wholes.{whole_alone, whole_guessed}
use Rattle.dotenvy_checker.proofs.lines.Checker.check_whole.Goals as goal

pub returns-in_ok-check_guesses : goal.returns-in_ok-check_guesses
returns-in_ok-check_guesses g c = λ last.
    whole_guessed (logical_of c.args.part) (record { number = c.args.number; is_guess = false }) last c.in-Some.from
    c.text.result.now refl (rw (← c.text.ensures) (encodes-chars c.text.result.now c.text.utf8))
    (rw c.in-Some.is at (c.in_ok-from.ensures last)) c.in_ok-check_guesses.ensures

pub returns-in_default : goal.returns-in_default
returns-in_default g c = λ last.
    whole_alone (logical_of c.args.part) (record { number = c.args.number; is_guess = false }) last refl
    (rw c.in_default.is at (c.in_ok-from.ensures last))
