use Rattle.dotenvy_findings.proofs.CommentWatches.{finds_comments}
use Rattle.dotenvy_findings.proofs.comments.finds_comments.Goals as goal

pub returns : goal.returns
returns c = finds_comments
