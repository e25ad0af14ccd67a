use Rattle.std.proofs.Common.{arith}
use Rattle.dotenvy_edit_command.proofs.DiffLines.{front_next}
use Rattle.dotenvy_edit_command.proofs.diff.same_front.Goals as goal

pub lines-preserved : goal.lines-preserved
lines-preserved c = record {
  in_old = omega (arith, c.lines-test.true);
  in_new = omega (arith, c.if-count-new.true);
  same = front_next c.args.old.now c.args.new.now c.lines.count _ _ c.lines-test.true c.if-count-new.true
      (c.is_same.ensures.0 c.if-not-is_same.false) c.lines.invariant.same;
}
