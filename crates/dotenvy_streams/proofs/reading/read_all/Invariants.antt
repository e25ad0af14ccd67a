use Rattle.std.proofs.Common.{◌≡◌, ◌≤◌, Some}
use Rattle.std.specs.Prelude.{vec_capacity}
use Rattle.dotenvy_base.specs.Source.{Ahead}
use Rattle.dotenvy_streams.proofs.WholeReads.{IsReadSoFar}
use Rattle.dotenvy_streams.proofs.reading.read_all.Given as goal

-- the bytes so far are those that were read, each read took one at least, and there is room for as many as were expected
abbrev pub invariant-reads : goal.invariant-reads
invariant-reads g l = record {
  read : (ahead : Ahead) → (g.S.Source.told l.fn.source).ahead ≡ Some ahead →
      IsReadSoFar ahead l.counter l.bytes.items (g.S.Source.told l.source).ahead;
  room : l.fn.room ≤ vec_capacity l.bytes;
}
