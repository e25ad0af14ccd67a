use Rattle.std.proofs.Common.{◌≡◌, suc, ◌-◌, ap, arith, length, length-append, append_assoc}
use Rattle.dotenvy_items.proofs.meaning.push_again.Goals as goal

pub unwrap-requires-in-pushes : goal.unwrap-requires-in-pushes
unwrap-requires-in-pushes g c =
    let i = c.pushes.invariant in
    let back : c.pushes.left ≡ suc (c.pushes.left - 1) = omega arith in
    let whole = simp length-append at (ap length (rw back at i.0)) in
    let room = simp length-append at c.requires in
    c.push_str-in-pushes.ensures.succeeds
    (omega (arith, whole, i.1, room, c.args.text.now.bytes.ok.0, c.pushes.text.bytes.ok.0))

pub pushes-preserved : goal.pushes-preserved
pushes-preserved g c =
    let i = c.pushes.invariant in
    let back : c.pushes.left ≡ suc (c.pushes.left - 1) = omega arith in
    let pushed = rw c.unwrap-in-pushes.ensures at c.push_str-in-pushes.ensures.bytes in
    (rw (pushed, append_assoc) (rw back at i.0), omega (arith, i.1, c.push_str-in-pushes.ensures.capacity))
