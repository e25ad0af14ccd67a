-- Pieces without an interruption, and their bytes.
use Rattle.std.proofs.Common.{◌≡◌, ℕ, List, [], ◌∷◌, ◌++◌, refl, ap, append_assoc}
use Rattle.std.specs.Prelude.{Option, None}
use Rattle.std.specs.declared.io.ErrorKind.{ErrorKind}
use Rattle.std.specs.declared.vec.Vec.{Vec}
use Rattle.std.specs.declared.alloc.Global.{Global}
use Rattle.std.proofs.lemmas.List.{append-nil}
use Rattle.dotenvy.specs.Source.{Ahead}
use Rattle.test_witnesses.specs.declared.source.Piece.{Piece}
use Rattle.test_witnesses.specs.declared.source.Piece.TheVariants.{Bytes, Interruption}
use Rattle.test_witnesses.specs.Pieces.{GiveBytes, ahead_of, bytes_of_pieces, fault_of}

-- pieces of which none is an interruption end as their source does
ends_so : (pieces : List Piece) (end : Option ErrorKind) → fault_of pieces None ≡ None → fault_of pieces end ≡ end
ends_so [] end none = refl
ends_so (Bytes bytes ∷ pieces) end none = ends_so pieces end none
ends_so (Interruption ∷ pieces) end none = cc

-- the same of the pieces with one more
ends_more : (pieces : List Piece) (more : Vec ℕ Global) → fault_of pieces None ≡ None →
    fault_of (pieces ++ Bytes more ∷ []) None ≡ None
ends_more [] more none = refl
ends_more (Bytes bytes ∷ pieces) more none = ends_more pieces more none
ends_more (Interruption ∷ pieces) more none = cc

-- the bytes with those of one piece more
bytes_more : (pieces : List Piece) (more : Vec ℕ Global) → fault_of pieces None ≡ None →
    bytes_of_pieces (pieces ++ Bytes more ∷ []) ≡ bytes_of_pieces pieces ++ more.items
bytes_more [] more none = rw append-nil
bytes_more (Bytes bytes ∷ pieces) more none = rw (bytes_more pieces more none, append_assoc)
bytes_more (Interruption ∷ pieces) more none = cc

-- one piece more
pub adds_bytes : (pieces : List Piece) (more : Vec ℕ Global) (before : List ℕ) → GiveBytes pieces before →
    GiveBytes (pieces ++ Bytes more ∷ []) (before ++ more.items)
adds_bytes pieces more before all =
    let none = ap Ahead.fault all in
    let bytes = ap Ahead.bytes all in
    rw (ends_more pieces more none, bytes_more pieces more none, bytes)

-- whole pieces end as their source does
pub ahead_ends : (pieces : List Piece) (bytes : List ℕ) (end : Option ErrorKind) → GiveBytes pieces bytes →
    ahead_of pieces end ≡ record { bytes = bytes; fault = end }
ahead_ends pieces bytes end all = rw (ends_so pieces end (ap Ahead.fault all), ap Ahead.bytes all)
