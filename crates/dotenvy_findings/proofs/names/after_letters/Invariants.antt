use Rattle.std.proofs.Common.{◌≡◌, length}
use Rattle.dotenvy_findings.specs.Names.{after_letters}
use Rattle.dotenvy_findings.proofs.names.after_letters.Given as goal

-- what is left decides the result
abbrev pub invariant-characters : goal.invariant-characters
invariant-characters l = after_letters l.rest ≡ after_letters l.text

abbrev pub decreases-characters : goal.decreases-characters
decreases-characters l = length l.rest
