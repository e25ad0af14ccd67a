use Rattle.std.proofs.Common.{◌≡◌, ◌++◌, ℕ, List}
use Rattle.test_witnesses.specs.Pieces.{GiveBytes}
use Rattle.test_witnesses.proofs.source.cut.Given as goal

-- the pieces so far are the bytes that are not left
abbrev pub invariant-lengths : goal.invariant-lengths
invariant-lengths l = (before : List ℕ) × GiveBytes l.pieces.items before × (before ++ l.rest ≡ l.fn.bytes)
