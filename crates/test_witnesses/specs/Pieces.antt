-- What a source of pieces has left.
use Rattle.std.specs.Prelude.{ℕ, ◌≡◌, List, [], ◌∷◌, ◌++◌, Option, Some, None}
use Rattle.std.specs.declared.io.ErrorKind.{ErrorKind}
use Rattle.std.specs.declared.io.ErrorKind.TheVariants.{Interrupted}
use Rattle.dotenvy.specs.Source.{Ahead}
use Rattle.test_witnesses.specs.declared.source.Piece.{Piece}
use Rattle.test_witnesses.specs.declared.source.Piece.TheVariants.{Bytes, Interruption}

-- the bytes of the pieces, one after the other, up to the first interruption
abbrev pub bytes_of_pieces : List Piece → List ℕ
bytes_of_pieces [] = []
bytes_of_pieces (Bytes bytes ∷ pieces) = bytes.items ++ bytes_of_pieces pieces
bytes_of_pieces (Interruption ∷ pieces) = []

-- what fails after these bytes: the first interruption, or else the end, if that fails
abbrev pub fault_of : List Piece → Option ErrorKind → Option ErrorKind
fault_of [] end = end
fault_of (Bytes bytes ∷ pieces) end = fault_of pieces end
fault_of (Interruption ∷ pieces) end = Some Interrupted

-- what these pieces and their end give
abbrev pub ahead_of : List Piece → Option ErrorKind → Ahead
ahead_of pieces end = record { bytes = bytes_of_pieces pieces; fault = fault_of pieces end }

-- these pieces are the bytes, whole: none is an interruption
abbrev pub GiveBytes : List Piece → List ℕ → Type 0
GiveBytes pieces bytes = ahead_of pieces None ≡ record { bytes = bytes; fault = None }

-- these bytes are one piece more
abbrev pub AddsBytes : List Piece → List ℕ → List Piece → Type 0
AddsBytes old bytes new = (before : List ℕ) → GiveBytes old before → GiveBytes new (before ++ bytes)
