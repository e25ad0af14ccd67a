use Rattle.std.proofs.Common.{◌≡◌, IfOk, subst}
use Rattle.dotenvy_findings.specs.Comments.{comment_kinds, named, words}
use Rattle.dotenvy_findings.proofs.CommentWords.{orders_in_other, orders_in_text}
use Rattle.dotenvy_findings.proofs.comments.comment_kinds.Goals as goal

pub returns-in-Ok : goal.returns-in-Ok
returns-in-Ok g c =
    let all : named (words c.in-Some.names.now) ≡ comment_kinds c.args.text.now =
    orders_in_text c.args.text.now c.in-Ok.ensures.cases.1 c.in-Some.ensures in
    subst (λ all. IfOk c.named_kinds.result (λ kinds. kinds.items ≡ all)) all c.named_kinds.ensures

pub returns-in-Err : goal.returns-in-Err
returns-in-Err g c = rw c.new-in-Err.ensures.items (orders_in_other c.args.text.now c.in-Err.ensures.cases.0)
