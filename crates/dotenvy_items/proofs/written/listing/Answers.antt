use Rattle.std.proofs.Common.{rules, ap, arith, length, length-append, append_assoc}
use Rattle.dotenvy_items.proofs.WrittenBytes.{first_bytes}
use Rattle.dotenvy_items.proofs.written.listing.Goals as goal

pub lens-preserved : goal.lens-preserved
lens-preserved g c =
    let first = first_bytes {rest = c.next.new.self} {pairs = c.lens.key-iterator} c.as_str.ensures.value
    c.as_str-in-lens.ensures.value (search rules) in
    let pair = simp length-append at (ap length first) in
    let whole = c.lens.invariant.whole in record {
      whole = omega (arith, pair, whole, c.written_len.ensures, c.saturating_add-len.ensures);
      fits = omega (arith, c.saturating_add-len.ensures);
    }

pub push_written-requires : goal.push_written-requires
push_written-requires g c =
    let first = first_bytes {rest = c.next-in-pairs.new.self} {pairs = c.pairs.key-iterator}
    c.as_str-in-pairs.ensures.value c.as_str-in-pairs-2.ensures.value (search rules) in
    let pair = simp length-append at (ap length first) in
    let whole = simp length-append at (ap length c.pairs.invariant.whole) in
    let len = c.pairs.out.bytes.ok.0 in
    omega (arith, pair, whole, len, c.pairs.invariant.capacity)

pub pairs-preserved : goal.pairs-preserved
pairs-preserved g c =
    let first = first_bytes {rest = c.next-in-pairs.new.self} {pairs = c.pairs.key-iterator}
    c.as_str-in-pairs.ensures.value c.as_str-in-pairs-2.ensures.value (search rules) in record {
      whole = rw (c.push_written.ensures.bytes, append_assoc, ← first) c.pairs.invariant.whole;
      capacity = let i = c.pairs.invariant.capacity in let k = c.push_written.ensures.capacity in omega (arith, i, k);
    }
