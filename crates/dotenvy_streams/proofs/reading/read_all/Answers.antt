use Rattle.std.proofs.Common.{◌≡◌, ◌<◌, ◌++◌, arith, length, refl, rules, take}
use Rattle.std.proofs.lemmas.Grind.{common_steps}
use Rattle.dotenvy_base.proofs.Writes.{is_interruption}
use Rattle.dotenvy_streams.proofs.WholeReads.{read_again, read_end, read_more, read_start}
use Rattle.dotenvy_streams.proofs.reading.read_all.Goals as goal
use Rattle.dotenvy_streams.proofs.reading.read_all.Goals.{in-Ok+in_ok-extend_from_slice-in-Ok, in-Err+else-ne}

pub reads-init : goal.reads-init
reads-init g c = record {
  read = λ ahead is.
      rw c.in_ok-bytes.ensures.items (read_start ahead (g.S.Source.told c.args.source.now).ahead is);
  room = c.in_ok-bytes.ensures.capacity;
}

pub returns-in-Ok-eq0-clause-whole : goal.returns-in-Ok-eq0-clause-whole
returns-in-Ok-eq0-clause-whole g c = λ ahead is.
    let zero : c.in-Ok-eq0.field-0 ≡ 0 = search rules in
    let room : 0 < length c.read_some.new.buf = first_of (search rules, grind (arith, common_steps)) in
    read_end ahead _ _ _ (g.S.Source.told c.read_some.new.self).ahead c.read_some.new.buf
    (c.reads.invariant.read ahead is) (rw zero at c.in-Ok-eq0.ensures.bytes) room

pub reads-preserved : goal.reads-preserved
reads-preserved g c = elim c.match-read_some.branch [
  | in-Ok+in_ok-extend_from_slice-in-Ok w ↦ (
      let taken : c.match-read_some.bytes.items ≡ c.reads.bytes.items ++ take w.in-Ok.n c.read_some.new.buf =
      grind (arith, common_steps, w.bytes-is, w.in_ok-extend_from_slice-in-Ok.ensures) in
      record {
        read = λ ahead is.
            rw taken
            (read_more ahead _ _ _ (g.S.Source.told c.read_some.new.self).ahead w.in-Ok.n c.read_some.new.buf
            (c.reads.invariant.read ahead is) w.in-Ok.ensures.bytes (search rules) w.in-Ok.ensures.bound);
        room = search rules;
      })
  | in-Err+else-ne w ↦ (
      let same : c.match-read_some.bytes.items ≡ c.reads.bytes.items = rw w.bytes-is refl in
      record {
        read = λ ahead is.
            rw same
            (read_again ahead _ _ _ (g.S.Source.told c.read_some.new.self).ahead w.in-Err.fault c.read_some.new.buf
            (c.reads.invariant.read ahead is) w.in-Err.ensures.bytes
            (is_interruption w.in-Err.fault w.kind.ensures w.ne.ensures w.if-ne.false));
        room = search rules;
      })
]
