use Rattle.std.proofs.Common.{◌+◌, ap, arith, length, length-append}
use Rattle.std.specs.Prelude.{◌-◌}
use Rattle.dotenvy_editor.proofs.LineSlices.{left_behind, skips_so, skips_then}
use Rattle.dotenvy_editor.proofs.lines.split_lines.Goals as goal

pub lines-init : goal.lines-init
lines-init c = skips_so (c.args.first - c.args.first + 1) c.after_line-rest.ensures (omega arith)

pub lines-preserved : goal.lines-preserved
lines-preserved c =
    skips_so (c.lines._line + 1 - c.args.first + 1) (skips_then c.lines.invariant c.after_line-rest-in-lines.ensures)
    (omega arith)

pub overflow_sub-bytes : goal.overflow_sub-bytes
overflow_sub-bytes c =
    let total = ap length c.lines.invariant.spelled in
    omega (arith, total, length-append c.lines.invariant.front c.lines.rest.now)

pub returns-clause-skips : goal.returns-clause-skips
returns-clause-skips c =
    rw (
      c.split_at.ensures.back,
      left_behind c.args.bytes.now c.lines.invariant.front c.lines.rest.now c.lines.invariant.spelled,
    ) (skips_so (c.args.last - c.args.first + 1) c.lines.invariant (omega arith))
