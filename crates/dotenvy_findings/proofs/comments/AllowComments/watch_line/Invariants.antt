use Rattle.std.proofs.Common.{◌≡◌, true, length}
use Rattle.dotenvy_format.specs.PhysicalLines.{no_line_feed}
use Rattle.dotenvy_findings.specs.Comments.{watch_of, watched}
use Rattle.dotenvy_findings.proofs.comments.AllowComments.watch_line.Given as goal

-- what is left of the line leads to the same watch
abbrev pub invariant-bytes : goal.invariant-bytes
invariant-bytes g l = record {
  inside : no_line_feed l.rest ≡ true;
  leads : watched (watch_of l.self) l.rest ≡ watched (watch_of l.fn.self) l.bytes;
}

abbrev pub decreases-bytes : goal.decreases-bytes
decreases-bytes g l = length l.rest
