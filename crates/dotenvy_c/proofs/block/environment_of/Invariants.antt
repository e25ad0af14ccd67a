use Rattle.std.proofs.Common.{◌≡◌, ◌++◌, length}
use Rattle.dotenvy.specs.Environment.{text_entries}
use Rattle.dotenvy_c.specs.Block.{block_pairs}
use Rattle.dotenvy_c.proofs.block.environment_of.Given as goal

-- the pairs so far, and those of what is left, are those of the block
abbrev pub invariant-entries : goal.invariant-entries
invariant-entries l = text_entries l.pairs.items ++ block_pairs l.rest ≡ block_pairs l.block

abbrev pub decreases-entries : goal.decreases-entries
decreases-entries l = length l.rest
