use Rattle.std.proofs.Common.{◌≡◌, length}
use Rattle.dotenvy_findings.specs.Comments.{watch_of, watched}
use Rattle.dotenvy_findings.proofs.comments.AllowComments.watch.Given as goal

-- what is left leads to the same watch
abbrev pub invariant-lines : goal.invariant-lines
invariant-lines g l = watched (watch_of l.self) l.rest ≡ watched (watch_of l.fn.self) l.bytes

abbrev pub decreases-lines : goal.decreases-lines
decreases-lines g l = length l.rest
