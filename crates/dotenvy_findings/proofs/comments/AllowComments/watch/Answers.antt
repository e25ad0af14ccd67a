use Rattle.std.proofs.Common.{arith, ap, ◌∙◌, ◌-◌, length, take, drop}
use Rattle.std.proofs.lemmas.List.{take_all, length-drop, drop-drop}
use Rattle.dotenvy_findings.specs.Comments.{Watch, White, watch_of}
use Rattle.dotenvy_findings.specs.Places.{one_more}
use Rattle.dotenvy_findings.proofs.CommentWatches.{goes_on, no_feed, none_before}
use Rattle.dotenvy_findings.proofs.comments.AllowComments.watch.Goals as goal

pub watch_line-requires : goal.watch_line-requires
watch_line-requires g c =
    rw c.split_at.ensures.front (none_before c.lines.rest.now c.in-Some.at c.in-Some.ensures)

pub lines-preserved : goal.lines-preserved
lines-preserved g c =
    let back = c.split_at.result.1.now in
    let behind = take_all _ _ (let e = length-drop 1 back in omega (arith, e))
    ∙ ap (drop 1) c.split_at.ensures.back ∙ drop-drop 1 c.in-Some.at c.lines.rest.now in
    let ends = ap (λ (w : Watch). record w { line = one_more w.line; part = White }) c.in_ok-keep.ensures in
    goes_on (watch_of c.lines.self) c.lines.rest.now c.split_at.result.0.now (take (length back - 1) (drop 1 back))
    c.in-Some.at c.in-Some.ensures c.split_at.ensures.front behind c.in_ok-watch_line.ensures
    (rw c.saturating_add-self.ensures ends) c.lines.invariant

pub watch_line-requires-2 : goal.watch_line-requires-2
watch_line-requires-2 g c = no_feed c.lines.rest.now c.in_default.ensures
