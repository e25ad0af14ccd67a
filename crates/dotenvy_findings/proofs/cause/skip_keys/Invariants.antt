use Rattle.std.proofs.Common.{◌≡◌, length}
use Rattle.dotenvy_findings.specs.Causes.{skip_keys}
use Rattle.dotenvy_findings.proofs.cause.skip_keys.Given as goal

-- what is left decides the result
abbrev pub invariant-characters : goal.invariant-characters
invariant-characters l = skip_keys l.rest ≡ skip_keys l.text

abbrev pub decreases-characters : goal.decreases-characters
decreases-characters l = length l.rest
