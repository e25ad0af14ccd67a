use Rattle.std.proofs.Common.{◌≡◌}
use Rattle.std.specs.FinMap as fin
use Rattle.dotenvy_items.specs.Listed.{pairs_of}
use Rattle.dotenvy_exporter.specs.Targets.{first_refusal}
use Rattle.dotenvy_exporter.proofs.EnvironmentPairs.{AreUtf8}
use Rattle.dotenvy_exporter.proofs.WrittenPairs.{texts}
use Rattle.dotenvy_exporter.proofs.export.first_refusal.Given as goal

-- the pairs that are left decide, and if they are UTF-8, all are
abbrev pub invariant-pairs : goal.invariant-pairs
invariant-pairs g l = record {
  left : first_refusal l.target (texts l.name-iterator) ≡ first_refusal l.target (pairs_of l.env.names);
  utf8 : AreUtf8 l.name-iterator → AreUtf8 (fin.entries l.env.names);
}
