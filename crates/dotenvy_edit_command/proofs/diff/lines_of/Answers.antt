use Rattle.std.proofs.Common.{◌≡◌, [], arith, rules}
use Rattle.std.proofs.lemmas.Grind.{common_steps}
use Rattle.dotenvy_edit_command.proofs.DiffLines.{last_line, line_added, no_line}
use Rattle.dotenvy_edit_command.proofs.diff.lines_of.Goals as goal
use Rattle.dotenvy_edit_command.proofs.diff.lines_of.Goals.{else-not-is_empty, then-not-is_empty+in_ok-push-2}

pub overflow_add-end : goal.overflow_add-end
overflow_add-end g c =
    let inside = c.in-Some.ensures.0.high in
    let short = c.lines.invariant.short in
    first_of (grind (arith, common_steps, inside, short, c.type_inv.text), search rules)

pub lines-preserved : goal.lines-preserved
lines-preserved g c = record {
  short = grind (arith, common_steps, c.lines.invariant.short, c.split_at.ensures.back_len);
  lines = rw c.in_ok-push.ensures.items
      (line_added c.lines.lines.items c.split_at.result.0 c.lines.rest.now c.split_at.result.1.now c.args.text.now
      c.in-Some.end c.in-Some.ensures c.split_at.ensures.front c.split_at.ensures.back c.lines.invariant.lines);
}

pub returns : goal.returns
returns g c = elim c.if-not-is_empty.branch [
  | then-not-is_empty+in_ok-push-2 w ↦ (
      rw (w.lines-is, w.in_ok-push-2.ensures.items)
      (last_line c.lines.lines.items c.lines.rest c.args.text.now c.in_default.ensures
      (λ empty. grind (arith, common_steps, empty, w.if-not-is_empty.true, c.is_empty.ensures))
      c.lines.invariant.lines))
  | else-not-is_empty w ↦ (
      let empty : c.lines.rest.now ≡ [] =
      first_of (search rules, grind (arith, common_steps, w.if-not-is_empty.false, c.is_empty.ensures)) in
      rw w.lines-is (no_line c.lines.lines.items c.lines.rest.now c.args.text.now empty c.lines.invariant.lines))
]
