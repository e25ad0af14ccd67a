use Rattle.std.proofs.Common.{◌≡◌, length}
use Rattle.dotenvy_findings.specs.Characters.{goes_on_to_value}
use Rattle.dotenvy_findings.proofs.characters.goes_on_to_value.Given as goal

-- what is left decides the result
abbrev pub invariant-characters : goal.invariant-characters
invariant-characters l = goes_on_to_value l.rest ≡ goes_on_to_value l.text

abbrev pub decreases-characters : goal.decreases-characters
decreases-characters l = length l.rest
