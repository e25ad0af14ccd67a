use Rattle.std.proofs.Common.{◌≢◌, Some, inr, refl}
use Rattle.dotenvy_edit_command.specs.Edited.{items_of}
use Rattle.dotenvy_edit_command.proofs.act.print_diff.Goals as goal

pub returns-in-Ok-clause-prints : goal.returns-in-Ok-clause-prints
returns-in-Ok-clause-prints g c =
    let diff =
    rw (c.name.ensures, c.as_str.ensures.value, c.bytes.ensures, c.as_slice-2.ensures.value) at c.in_ok-text.ensures in
    let sends = rw c.as_slice-3.ensures.value at c.in-Ok.ensures in
    let differs : items_of c.args.old.now.bytes ≢ Some c.args.edit.bytes.items = λ same.
    let has = rw c.as_slice.ensures.value at c.has.ensures in
    let never = rw c.if-has.false at (has.1 same) in cc in
    inr (differs, (c.in_ok-text.text.items, diff, (refl, sends)))

pub returns-in-Err-clause-prints : goal.returns-in-Err-clause-prints
returns-in-Err-clause-prints g c =
    let diff =
    rw (c.name.ensures, c.as_str.ensures.value, c.bytes.ensures, c.as_slice-2.ensures.value) at c.in_ok-text.ensures in
    let sends = rw c.as_slice-3.ensures.value at c.in-Err.ensures in
    let differs : items_of c.args.old.now.bytes ≢ Some c.args.edit.bytes.items = λ same.
    let has = rw c.as_slice.ensures.value at c.has.ensures in
    let never = rw c.if-has.false at (has.1 same) in cc in
    inr (differs, (c.in_ok-text.text.items, diff, sends))
