use Rattle.std.proofs.Common.{rules, ◌≡◌, ◌-◌, ◌≤◌, length, take, ap, ◌∙◌, arith, vec_len}
use Rattle.std.specs.List.{copy_within}
use Rattle.std.proofs.lemmas.List.{with_items_is}
use borrow.Rule.Slice.PartMut.{put_mid, mid_of, same_len_mid}
use Rattle.dotenvy_format.proofs.bytes.Buffers.{unread-moved, unread-more, unread-len}
use Rattle.std.proofs.lemmas.Grind.{common_steps}
use Rattle.dotenvy_lines.proofs.buffer.Buffer.read_from.Goals as goal

pub returns : goal.returns
returns g c =
    let s = c.self.inside in
    let holds = c.self.invariant in
    let size : length s.bytes.items ≡ vec_len s.bytes = search rules in
    let full : s.filled ≤ length s.bytes.items = omega (arith, holds.1, holds.2, size) in
    let long = unread-len s.bytes.items s.used s.filled holds.0 full in
    let same = ap length c.self.view_is in
    let first = s.filled - s.used in
    let bytes = c.deref_mut.result.now in
    let given = c.read_some.new.buf in
    let room = length bytes - first in
    let count = c.in_ok-count.count in
    let moved : bytes ≡ copy_within s.bytes.items s.used s.filled 0 = search rules in
    let now : take first bytes ≡ c.args.self.now =
    ap (take first) moved ∙ unread-moved s.bytes.items s.used s.filled holds.0 full ∙ c.self.view_is in
    let lent : length given ≡ length (mid_of first room bytes) = search rules in
    let all : length (put_mid first room bytes given) ≡ c.copy_within.new.self.len =
    same_len_mid first room bytes given lent ∙ search rules in
    record {
      given = given;
      room = search rules;
      reads = c.in_ok-count.ensures.bytes;
      appends = (
        c.in_ok-count.ensures.bound,
        rw (← now, with_items_is c.copy_within.new.self (put_mid first room bytes given) all)
            (unread-more bytes given first room count (search rules) c.in_ok-count.ensures.bound),
      );
      call = search rules;
      same = c.in_ok-count.ensures.same;
    }

pub returns-in_err-count : goal.returns-in_err-count
returns-in_err-count g c = grind (arith, common_steps)
