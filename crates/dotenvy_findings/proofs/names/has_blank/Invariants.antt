use Rattle.std.proofs.Common.{◌≡◌, length}
use Rattle.std.specs.Char.{is_whitespace}
use Rattle.std.specs.List.{list_any}
use Rattle.dotenvy_findings.proofs.names.has_blank.Given as goal

-- what is left decides the result
abbrev pub invariant-characters : goal.invariant-characters
invariant-characters l = list_any is_whitespace l.rest ≡ list_any is_whitespace l.text

abbrev pub decreases-characters : goal.decreases-characters
decreases-characters l = length l.rest
