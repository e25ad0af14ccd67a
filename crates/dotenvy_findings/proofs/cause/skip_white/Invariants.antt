use Rattle.std.proofs.Common.{◌≡◌, length}
use Rattle.dotenvy_findings.specs.Causes.{skip_white}
use Rattle.dotenvy_findings.proofs.cause.skip_white.Given as goal

-- what is left decides the result
abbrev pub invariant-blanks : goal.invariant-blanks
invariant-blanks l = skip_white l.rest ≡ skip_white l.text

abbrev pub decreases-blanks : goal.decreases-blanks
decreases-blanks l = length l.rest
