use Rattle.std.proofs.Common.{◌≡◌, length}
use Rattle.dotenvy_findings.specs.Causes.{has_command}
use Rattle.dotenvy_findings.proofs.cause.has_command.Given as goal

-- what is left decides the result
abbrev pub invariant-characters : goal.invariant-characters
invariant-characters l = has_command l.rest ≡ has_command l.text

abbrev pub decreases-characters : goal.decreases-characters
decreases-characters l = length l.rest
