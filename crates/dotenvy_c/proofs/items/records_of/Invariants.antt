use Rattle.dotenvy.specs.Iter.{items_measure}
use Rattle.dotenvy_editor.specs.TakenSlices.{SkipsLines}
use Rattle.dotenvy_c.specs.Block.{block_names}
use Rattle.dotenvy_c.specs.Options.{dialect_of}
use Rattle.dotenvy_c.proofs.ItemLines.{ReadsBytes}
use Rattle.dotenvy_c.proofs.Telling.{HasTaken}
use Rattle.dotenvy_c.proofs.items.records_of.Given as goal

-- the records are those of the items that were taken so far; the place comes after their lines, and so do the bytes
-- that are left
abbrev pub invariant-items : goal.invariant-items
invariant-items l = record {
  taken : HasTaken l.options l.file (block_names l.block) l.initial.items l.items l.records;
  place : SkipsLines l.file l.place.lines l.place.rest.now;
  reads : ReadsBytes (dialect_of l.options) l.bytes l.items;
}

-- each item that is taken leaves less
abbrev pub decreases-items : goal.decreases-items
decreases-items l = items_measure l.items
