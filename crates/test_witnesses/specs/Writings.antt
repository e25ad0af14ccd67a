-- Pairs that are written.
use Rattle.std.specs.Prelude.{ℕ, ◌≡◌, List, [], ◌∷◌, map, Option, IsTrue, string_bytes}
use Rattle.std.specs.Str.{chars}
use Rattle.std.specs.declared.io.ErrorKind.{ErrorKind}
use Rattle.std.specs.declared.string.String.{String}
use Rattle.dotenvy.specs.Keys.{is_key}
use Rattle.dotenvy.specs.Laws.{written_in_turn}
use Rattle.test_witnesses.specs.declared.source.Piece.{Piece}
use Rattle.test_witnesses.specs.Pieces.{ahead_of}

-- pairs by their characters
abbrev pub character_pairs : {A : Type 0} → List (String A × String A) → List (List ℕ × List ℕ)
character_pairs pairs = map (λ p. (chars (string_bytes p.0), chars (string_bytes p.1))) pairs

-- the first of each pair is a key
abbrev pub HaveKeys : {A : Type 0} → List (String A × String A) → Type 0
HaveKeys [] = Unit {0}
HaveKeys (p ∷ pairs) = IsTrue (is_key (chars (string_bytes p.0))) × HaveKeys pairs

-- these pieces are what was written of these pairs, one after the other, and then the end
abbrev pub AreWritten : {A : Type 0} → List (String A × String A) → List Piece → Type 0
AreWritten pairs pieces =
    (end : Option ErrorKind) →
    ahead_of pieces end ≡ record { bytes = written_in_turn (character_pairs pairs); fault = end }
