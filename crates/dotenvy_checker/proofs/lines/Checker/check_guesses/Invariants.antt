use Rattle.std.proofs.Common.{◌≡◌, true}
use Rattle.dotenvy_checker.specs.Findings.{cut}
use Rattle.dotenvy_checker.specs.inside.CheckedLines.{left_len, pieces}
use Rattle.dotenvy_checker.proofs.Guesses.{Guessed}
use Rattle.dotenvy_checker.proofs.lines.Checker.check_guesses.Given as goal

-- some physical lines were guessed, with those that are left
abbrev pub invariant-lines : goal.invariant-lines
invariant-lines g l = record {
  guessed : Guessed l.from l.number (cut l.text) l.is_open l.line.number (pieces l.left) l.fn.self l.self;
  is_guess : l.line.is_guess ≡ true;
}

abbrev pub decreases-lines : goal.decreases-lines
decreases-lines g l = left_len l.left
