use Rattle.std.proofs.Common.{◌≡◌, length}
use Rattle.dotenvy_findings.specs.Comments.{without_white}
use Rattle.dotenvy_findings.proofs.comments.skip_white.Given as goal

-- what is left decides the result
abbrev pub invariant-bytes : goal.invariant-bytes
invariant-bytes l = without_white l.rest ≡ without_white l.text

abbrev pub decreases-bytes : goal.decreases-bytes
decreases-bytes l = length l.rest
