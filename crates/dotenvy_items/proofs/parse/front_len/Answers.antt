use Rattle.std.proofs.Common.{arith}
use Rattle.dotenvy_items.proofs.LinePasses.{front_and_left}
use Rattle.dotenvy_items.proofs.parse.front_len.Goals as goal

pub overflow_sub-result : goal.overflow_sub-result
overflow_sub-result c =
    let total = front_and_left c.args.text.now c.args.left.now c.requires.0 c.utf8.text c.utf8.left c.requires.1 in
    omega (arith, total)

pub returns : goal.returns
returns c = λ front is.
    let total = front_and_left c.args.text.now c.args.left.now front c.utf8.text c.utf8.left is in omega (arith, total)
