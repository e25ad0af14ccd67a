use Rattle.std.proofs.Common.{◌≡◌, ◌++◌}
use Rattle.std.specs.Prelude.{string_bytes}
use Rattle.dotenvy_items.specs.Listed.{pairs_of}
use Rattle.dotenvy_exporter.specs.Lines.{lines_bytes}
use Rattle.dotenvy_exporter.proofs.WrittenPairs.{texts}
use Rattle.dotenvy_exporter.proofs.lines.lines.Given as goal

-- with the pairs that are left the text is whole
abbrev pub invariant-pairs : goal.invariant-pairs
invariant-pairs g l =
    string_bytes l.out ++ lines_bytes l.form (texts l.name-iterator) ≡ lines_bytes l.form (pairs_of l.env.names)
