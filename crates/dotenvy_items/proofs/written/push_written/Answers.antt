use Rattle.std.proofs.Common.{length, length-append, append_assoc, arith, ap}
use Rattle.std.specs.Str.{chars}
use Rattle.std.proofs.lemmas.Str.{IsUtf8-drop}
use Rattle.dotenvy_format.specs.Characters.{backslash}
use Rattle.dotenvy_format.proofs.bytes.AsciiRows.{row_boundary}
use Rattle.dotenvy_items.proofs.WrittenBytes.{escaped_bytes, left_len, left_next, left_row, left_run}
use Rattle.dotenvy_items.proofs.written.push_written.Goals as goal

pub split_at-requires : goal.split_at-requires
split_at-requires g c =
    row_boundary backslash c.parts.rest.now c.row_len-row.result (omega arith) c.parts.invariant.utf8
    (omega (arith, c.row_len-row.ensures))

pub push_short-requires : goal.push_short-requires
push_short-requires g c =
    let i = c.parts.invariant in
    let whole = simp length-append at (ap length i.whole) in
    let next = simp length-append at (ap length (left_row c.parts.rest.now c.row_len-row.result i.utf8
    c.row_len-row.ensures c.split_at.ensures.front c.split_at.ensures.back)) in
    omega (arith, whole, next, i.capacity, c.requires, c.args.out.now.bytes.ok.0, c.parts.out.bytes.ok.0)

pub push_short-requires-then-row-gt0 : goal.push_short-requires-then-row-gt0
push_short-requires-then-row-gt0 g c =
    let i = c.parts.invariant in
    let whole = simp length-append at (ap length i.whole) in
    let next = simp length-append at (ap length (left_row c.parts.rest.now c.row_len-row.result i.utf8
    c.row_len-row.ensures c.split_at.ensures.front c.split_at.ensures.back)) in
    let len = simp length-append at (ap length c.push_short.ensures.bytes) in
    omega (
      arith,
      whole,
      next,
      i.capacity,
      c.requires,
      c.args.out.now.bytes.ok.0,
      c.parts.out.bytes.ok.0,
      c.push_short.new.out.bytes.ok.0,
      len,
      c.push_short.ensures.capacity,
    )

pub parts-preserved-then-row-gt0 : goal.parts-preserved-then-row-gt0
parts-preserved-then-row-gt0 g c =
    let i = c.parts.invariant in
    let rest = c.parts.rest.now in
    let n = c.row_len-row.result in
    let boundary = row_boundary backslash rest n (omega arith) i.utf8 (omega (arith, c.row_len-row.ensures)) in
    let next = left_row rest n i.utf8 c.row_len-row.ensures c.split_at.ensures.front c.split_at.ensures.back in
    let first = c.push_short.ensures.bytes in
    let second = c.push_short-then-row-gt0.ensures.bytes in
    let more = c.push_short-then-row-gt0.ensures.capacity in
    record {
      utf8 = rw c.split_at.ensures.back (IsUtf8-drop rest n i.utf8 boundary);
      whole = rw (second, first, append_assoc, append_assoc, ← next) i.whole;
      capacity = omega (arith, i.capacity, c.push_short.ensures.capacity, more);
    }

pub unwrap-requires-then-needs_backslash : goal.unwrap-requires-then-needs_backslash
unwrap-requires-then-needs_backslash g c =
    let i = c.parts.invariant in
    let whole = simp length-append at (ap length i.whole) in
    let next = simp length-append at (ap length (left_next c.parts.rest.now c.in-Some.after_first.now c.in-Some.first
    i.utf8 c.in-Some.ensures.bytes)) in
    let escaped = ap length (escaped_bytes c.in-Some.first (search arith)) in
    c.push.ensures.succeeds
    (omega (arith, whole, next, escaped, i.capacity, c.requires, c.args.out.now.bytes.ok.0, c.parts.out.bytes.ok.0))

pub unwrap-requires-then-needs_backslash-2 : goal.unwrap-requires-then-needs_backslash-2
unwrap-requires-then-needs_backslash-2 g c =
    let i = c.parts.invariant in
    let whole = simp length-append at (ap length i.whole) in
    let next = simp length-append at (ap length (left_next c.parts.rest.now c.in-Some.after_first.now c.in-Some.first
    i.utf8 c.in-Some.ensures.bytes)) in
    let escaped = ap length (escaped_bytes c.in-Some.first (search arith)) in
    let len = rw c.unwrap-then-needs_backslash.ensures at c.push.ensures.len in
    c.push-then-needs_backslash.ensures.succeeds (omega (
      arith,
      whole,
      next,
      escaped,
      i.capacity,
      c.requires,
      c.args.out.now.bytes.ok.0,
      c.parts.out.bytes.ok.0,
      len,
      c.push.ensures.capacity,
    ))

pub push_short-requires-else-needs_backslash : goal.push_short-requires-else-needs_backslash
push_short-requires-else-needs_backslash g c =
    let i = c.parts.invariant in
    let whole = simp length-append at (ap length i.whole) in
    let run = simp length-append at (ap length (left_run c.parts.rest.now c.split_while.result.0.now
    c.split_while.result.1.now c.split_while.ensures.texts.0 c.split_while.ensures.span)) in
    omega (arith, whole, run, i.capacity, c.requires, c.args.out.now.bytes.ok.0, c.parts.out.bytes.ok.0)

pub unwrap-requires-3 : goal.unwrap-requires-3
unwrap-requires-3 g c =
    let i = c.parts.invariant in
    let whole = simp length-append at (ap length i.whole) in
    let left = left_len (chars c.parts.rest.now) in
    c.push_str-3.ensures.succeeds
    (omega (arith, whole, left, i.capacity, c.requires, c.args.out.now.bytes.ok.0, c.parts.out.bytes.ok.0))
