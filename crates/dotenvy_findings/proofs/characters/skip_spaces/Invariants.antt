use Rattle.std.proofs.Common.{◌≡◌, length}
use Rattle.dotenvy_findings.specs.Characters.{skip_spaces}
use Rattle.dotenvy_findings.proofs.characters.skip_spaces.Given as goal

-- what is left decides the result
abbrev pub invariant-spaces : goal.invariant-spaces
invariant-spaces l = skip_spaces l.rest ≡ skip_spaces l.text

abbrev pub decreases-spaces : goal.decreases-spaces
decreases-spaces l = length l.rest
