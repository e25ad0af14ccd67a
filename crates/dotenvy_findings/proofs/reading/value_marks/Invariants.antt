use Rattle.std.proofs.Common.{◌≡◌, length}
use Rattle.dotenvy_findings.specs.Readings.{Asked, asked_of, not_read, read_all, reading_of}
use Rattle.dotenvy_findings.proofs.reading.value_marks.Given as goal

-- what is left leads to the same end, and the same is asked
abbrev pub invariant-characters : goal.invariant-characters
invariant-characters g l =
    let asked : Asked = record {
      known = g.N.Names.has_value l.names;
      key = l.key;
      value = l.value.text.now;
    } in record {
      same : asked_of g.N.Names.has_value l.reading ≡ asked;
      reads :
          read_all asked l.left (reading_of l.reading)
          ≡ read_all asked l.value.text.now (not_read l.value.dialect l.value.start);
    }

abbrev pub decreases-characters : goal.decreases-characters
decreases-characters g l = length l.left
