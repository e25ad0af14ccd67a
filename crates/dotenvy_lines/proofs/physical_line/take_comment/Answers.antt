use Rattle.std.proofs.Common.{refl}
use Rattle.dotenvy_lines.proofs.WholeLines.{comment_taken, whole_falls}
use Rattle.dotenvy_lines.proofs.AskedReads.{asks_none}
use Rattle.dotenvy_lines.proofs.physical_line.take_comment.Goals as goal

pub returns-in-Some-clause-comment : goal.returns-in-Some-clause-comment
returns-in-Some-clause-comment g c =
    let is = c.in-Some.ensures in
    rw c.use_up.ensures (
      whole_falls c.args.input.now c.unread.ensures.len is.1,
      λ a left. comment_taken (c.unread.ensures.told a left) c.unread.ensures.len left is,
    )

pub returns-in-Some-clause-asks : goal.returns-in-Some-clause-asks
returns-in-Some-clause-asks g c = rw c.use_up.ensures (asks_none _ _ _ refl refl refl refl)

pub returns-in-None-clause-asks : goal.returns-in-None-clause-asks
returns-in-None-clause-asks g c = asks_none _ _ _ refl refl refl refl
