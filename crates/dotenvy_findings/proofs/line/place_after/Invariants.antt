use Rattle.std.proofs.Common.{◌≡◌, length}
use Rattle.dotenvy_findings.specs.Places.{place_after}
use Rattle.dotenvy_findings.proofs.line.place_after.Given as goal

-- what is left decides the result
abbrev pub invariant-characters : goal.invariant-characters
invariant-characters l = place_after l.place l.rest ≡ place_after l.fn.start l.fn.text

abbrev pub decreases-characters : goal.decreases-characters
decreases-characters l = length l.rest
