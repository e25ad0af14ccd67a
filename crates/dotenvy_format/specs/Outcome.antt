-- What one logical line says.
use Rattle.std.specs.Prelude.{◌≡◌, ◌⊎◌, ℕ, ◌-◌, Bool, List, [], IsTrue, not, length, take, ◌==◌, if◌then◌else◌}
use Rattle.std.specs.Str.{skip_leading_whitespace, drop_trailing_whitespace}
use Rattle.dotenvy_format.specs.Characters.{byte_len, is_empty_or_comment}
use Rattle.dotenvy_format.specs.declared.dialect.Dialect.{Dialect}
use Rattle.dotenvy_format.specs.Statement.{IsStatement}
use Rattle.dotenvy_format.specs.Value.{Piece, IsValue}
use Rattle.dotenvy_format.specs.Places.{BeginsStatement, BeginsValue, IsPlace}

-- what a line says: nothing; a key with the pieces of its value; or a fault, with its text and its index
pub data Outcome : Type 0 where
  Nothing : Outcome
  Pair : List ℕ → List Piece → Outcome
  Fault : List ℕ → ℕ → Outcome

-- the line without white space at its end
abbrev pub trimmed : List ℕ → List ℕ
trimmed line = drop_trailing_whitespace line

-- the line is empty or a comment, white space aside
abbrev pub is_nothing : List ℕ → Bool
is_nothing line = is_empty_or_comment (skip_leading_whitespace line)

-- this may be assigned, and means these pieces: nothing or a comment means none, a value means its own
abbrev pub Assigns : Dialect → List ℕ → List Piece → Type 0
Assigns dialect rest pieces =
    (IsTrue (is_empty_or_comment rest) × (pieces ≡ []))
    ⊎ (IsTrue (not (is_empty_or_comment rest)) × IsValue dialect rest pieces)

-- the index of a fault in a value: its place in characters; but if only the end is missing, its length in bytes less
-- one
abbrev pub value_index : List ℕ → ℕ → ℕ
value_index rest place = if place == length rest then byte_len rest - 1 else place

-- the line is not a statement: the fault has the whole line, and its place in bytes
pub record HasNoStatement (line text : List ℕ) (index : ℕ) : Type 0 where
  pub none : (key rest : List ℕ) → ¬ (IsStatement (trimmed line) key rest)
  pub place : ℕ
  pub is_place : IsPlace BeginsStatement (trimmed line) place
  pub line_is : text ≡ line
  pub index_is : index ≡ byte_len (take place (trimmed line))

-- the text that is assigned is not a value, and the fault has this index
pub record HasNoValue (dialect : Dialect) (text : List ℕ) (index : ℕ) : Type 0 where
  pub assigned : IsTrue (not (is_empty_or_comment text))
  pub none : (pieces : List Piece) → ¬ (IsValue dialect text pieces)
  pub place : ℕ
  pub is_place : IsPlace (BeginsValue dialect) text place
  pub index_is : index ≡ value_index text place

-- the line says this, after white space at its end is cut off
abbrev pub Says : Dialect → List ℕ → Outcome → Type 0
Says dialect line Nothing = IsTrue (is_nothing (trimmed line))
Says dialect line (Pair key pieces) =
    IsTrue (not (is_nothing (trimmed line)))
    × (rest : List ℕ) × IsStatement (trimmed line) key rest × Assigns dialect rest pieces
Says dialect line (Fault text index) =
    IsTrue (not (is_nothing (trimmed line)))
    × (HasNoStatement line text index
    ⊎ ((key : List ℕ) × IsStatement (trimmed line) key text × HasNoValue dialect text index))
