use Rattle.dotenvy_findings.proofs.CommentWords.{no_name}
use Rattle.dotenvy_findings.proofs.comments.kind_of.Goals as goal

pub returns-in-Ok : goal.returns-in-Ok
returns-in-Ok c = rw c.in-Ok.ensures.cases.0 at c.kind_named.ensures

pub returns-in-Err : goal.returns-in-Err
returns-in-Err c = no_name c.args.word.now c.in-Err.ensures.cases.0
