use Rattle.dotenvy_findings.proofs.CommentWatches.{parts_join}
use Rattle.dotenvy_findings.proofs.comments.comment_parts_join.Goals as goal

pub returns : goal.returns
returns c = parts_join
