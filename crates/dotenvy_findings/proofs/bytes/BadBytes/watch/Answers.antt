use Rattle.std.proofs.Common.{rules, ◌≡◌, ◌==◌, ◌∷◌, not}
use Rattle.std.proofs.lemmas.List.Sums.{prefix_len-le-length}
use Rattle.dotenvy_format.specs.Characters.{line_feed}
use Rattle.dotenvy_findings.specs.Bytes.{watch_of}
use Rattle.dotenvy_findings.proofs.Watches.{goes_on, line_has_none}
use Rattle.dotenvy_findings.proofs.bytes.BadBytes.watch.Goals as goal

pub split_at-requires : goal.split_at-requires
split_at-requires g c =
    rw c.line_len.ensures (prefix_len-le-length (λ b. not (b == line_feed)) c.lines.rest.now)

pub watch_line-requires : goal.watch_line-requires
watch_line-requires g c = rw (c.split_at.ensures.front, c.line_len.ensures) (line_has_none c.lines.rest.now)

pub lines-preserved : goal.lines-preserved
lines-preserved g c =
    let parts : c.split_at.result.1.now ≡ c.in-Some.end.now ∷ c.in-Some.after.now = search rules in
    goes_on (watch_of c.lines.self) c.lines.rest.now c.split_at.result.0.now c.split_at.result.1.now
    c.in-Some.after.now c.line_len.result c.in-Some.end.now c.split_at.ensures.front c.split_at.ensures.back parts
    c.in_ok-watch_line.ensures c.in_ok-step.ensures c.lines.invariant
