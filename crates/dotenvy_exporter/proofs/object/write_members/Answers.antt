use Rattle.std.proofs.Common.{rules, append_assoc, ◌∙◌}
use Rattle.dotenvy_exporter.proofs.WrittenPairs.{members_next}
use Rattle.dotenvy_exporter.proofs.object.write_members.Goals as goal

pub pairs-preserved : goal.pairs-preserved
pairs-preserved g c =
    let first = members_next {rest = c.next.new.self} {entries = c.pairs.name-iterator}
    c.as_str.ensures.value c.as_str-in-pairs.ensures.value (search rules) c.as_str.utf8 c.as_str-in-pairs.utf8 in
    record {
      tokens = rw (c.in_ok-string.ensures.ok, c.in_ok-key.ensures.ok, append_assoc, append_assoc, ← first)
          c.pairs.invariant.tokens;
      before = c.string.ensures.room.0 ∙ c.key.ensures.room.0 ∙ c.pairs.invariant.before;
    }
