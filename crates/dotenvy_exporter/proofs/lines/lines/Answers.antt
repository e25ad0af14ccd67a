use Rattle.std.proofs.Common.{rules, append_assoc}
use Rattle.dotenvy_exporter.proofs.WrittenPairs.{lines_next}
use Rattle.dotenvy_exporter.proofs.lines.lines.Goals as goal

pub pairs-preserved : goal.pairs-preserved
pairs-preserved g c =
    let first = lines_next {rest = c.next.new.self} {entries = c.pairs.name-iterator} c.args.form
    c.as_str.ensures.value c.as_str-in-pairs.ensures.value (search rules) in
    rw (c.in_ok-push_line.ensures, append_assoc, ← first) c.pairs.invariant
