use Rattle.std.proofs.Common.{◌≡◌, length}
use Rattle.dotenvy_findings.specs.Causes.{after_equals}
use Rattle.dotenvy_findings.proofs.cause.after_equals.Given as goal

-- what is left decides the result
abbrev pub invariant-characters : goal.invariant-characters
invariant-characters l = after_equals l.rest ≡ after_equals l.text

abbrev pub decreases-characters : goal.decreases-characters
decreases-characters l = length l.rest
