use Rattle.std.proofs.Common.{rules, ◌≡◌, false}
use Rattle.dotenvy_findings.specs.Comments.{is_open, part_of, watch_of}
use Rattle.dotenvy_findings.proofs.CommentWatches.{ends_line}
use Rattle.dotenvy_findings.proofs.comments.AllowComments.watch_line.Goals as goal

pub returns-then-not-is_open : goal.returns-then-not-is_open
returns-then-not-is_open g c =
    let decided : is_open (part_of c.bytes.self.part) ≡ false = search rules in
    ends_line (watch_of c.bytes.self) (part_of c.keep_rest.new.self) c.bytes.rest.now decided
    c.bytes.invariant.inside c.in_ok-keep_rest.ensures c.bytes.invariant.leads
