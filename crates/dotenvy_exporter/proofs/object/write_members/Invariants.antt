use Rattle.std.proofs.Common.{◌≡◌, ◌++◌}
use Rattle.std.specs.List.{flat_map}
use Rattle.dotenvy_items.specs.Listed.{pairs_of}
use Rattle.dotenvy_exporter.specs.Json.{member}
use Rattle.dotenvy_exporter.proofs.WrittenPairs.{texts}
use Rattle.dotenvy_exporter.proofs.object.write_members.Given as goal

-- with the pairs that are left all members are there
abbrev pub invariant-pairs : goal.invariant-pairs
invariant-pairs g l = record {
  tokens : l.writer.tokens ++ flat_map member (texts l.name-iterator)
      ≡ l.fn.writer.tokens ++ flat_map member (pairs_of l.env.names);
  before : l.writer.before ≡ l.fn.writer.before;
}
