use Rattle.std.proofs.Common.{◌≡◌, ◌++◌, length}
use Rattle.dotenvy.specs.Laws.{written_in_turn}
use Rattle.test_witnesses.specs.Turns.{held_by}
use Rattle.test_witnesses.specs.Writings.{HaveKeys, character_pairs}
use Rattle.test_witnesses.proofs.written.write_pairs.Given as goal

-- what the sink holds, and what the pairs that are left add to it
abbrev pub invariant-pairs : goal.invariant-pairs
invariant-pairs l =
    HaveKeys l.left
    × (held_by l.sink ++ written_in_turn (character_pairs l.left)
    ≡ held_by l.fn.sink ++ written_in_turn (character_pairs l.fn.pairs))

abbrev pub decreases-pairs : goal.decreases-pairs
decreases-pairs l = length l.left
