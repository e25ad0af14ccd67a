use Rattle.std.proofs.Common.{◌≡◌, length}
use Rattle.dotenvy_format.specs.inside.LineEnd.{blanks_over, with_one}
use Rattle.dotenvy_format.proofs.walk.blanks_over.Given as goal

-- the blanks behind what is left, with those that were passed, are those behind all of the run
abbrev pub invariant-row : goal.invariant-row
invariant-row l = with_one l.is_one_more (blanks_over l.fn.blanks l.front) ≡ blanks_over l.fn.blanks l.fn.run

abbrev pub decreases-row : goal.decreases-row
decreases-row l = length l.front
