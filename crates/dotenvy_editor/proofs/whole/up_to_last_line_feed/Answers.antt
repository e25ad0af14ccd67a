use Rattle.std.proofs.Common.{◌≡◌, ◌+◌, suc, arith, sym}
use Rattle.dotenvy_editor.proofs.WholeLines.{front_at, front_none}
use Rattle.dotenvy_editor.proofs.whole.up_to_last_line_feed.Goals as goal

pub returns-in-Some : goal.returns-in-Some
returns-in-Some c =
    let next : c.in-Some.place + 1 ≡ suc c.in-Some.place = omega arith in
    rw next (sym (front_at c.args.bytes.now c.in-Some.place (rw c.in-Some.is at c.memrchr.ensures)))

pub returns-in-None : goal.returns-in-None
returns-in-None c = sym (front_none c.args.bytes.now (rw c.in-None.is at c.memrchr.ensures))
