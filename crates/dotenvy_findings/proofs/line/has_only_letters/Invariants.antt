use Rattle.std.proofs.Common.{◌≡◌, length}
use Rattle.dotenvy_findings.specs.LineTexts.{has_only_letters}
use Rattle.dotenvy_findings.proofs.line.has_only_letters.Given as goal

-- what is left decides the result
abbrev pub invariant-characters : goal.invariant-characters
invariant-characters l = has_only_letters l.rest ≡ has_only_letters l.text

abbrev pub decreases-characters : goal.decreases-characters
decreases-characters l = length l.rest
