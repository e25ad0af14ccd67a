use Rattle.std.proofs.Common.{◌≡◌, ◌++◌, length}
use Rattle.test_witnesses.specs.Pieces.{bytes_of_pieces, fault_of}
use Rattle.test_witnesses.proofs.source.PiecesSource.read_some.Given as goal

-- what is left stays the same: pieces are only taken while none of their bytes is left
abbrev pub invariant-pieces : goal.invariant-pieces
invariant-pieces l =
    (l.self-inside.rest.now ++ bytes_of_pieces l.self-inside.pieces.now ≡ l.fn.self.bytes)
    × (fault_of l.self-inside.pieces.now l.self-inside.end ≡ l.fn.self.fault)

abbrev pub decreases-pieces : goal.decreases-pieces
decreases-pieces l = length l.self-inside.pieces.now
