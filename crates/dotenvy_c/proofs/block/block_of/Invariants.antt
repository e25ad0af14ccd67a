use Rattle.std.proofs.Common.{◌≡◌, ◌++◌, true}
use Rattle.std.specs.List.{flat_map, list_all}
use Rattle.std.specs.FinMap as fin
use Rattle.dotenvy_c.specs.Block.{block_of, entry_of, is_block_pair}
use Rattle.dotenvy_c.proofs.block.block_of.Given as goal

-- with the entries that are left the block is whole, and if these fit a block, all do
abbrev pub invariant-pairs : goal.invariant-pairs
invariant-pairs l = record {
  whole : l.block.items ++ flat_map entry_of l.name-iterator ≡ block_of l.environment.names;
  fits :
      list_all is_block_pair l.name-iterator ≡ true →
      list_all is_block_pair (fin.entries l.environment.names) ≡ true;
}
