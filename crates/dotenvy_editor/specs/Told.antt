-- What the code tells of a line, in the words of the definitions.
use Rattle.std.specs.Prelude.{ℕ, ◌≡◌, not, List, ◌++◌, Option, Some, None, IsTrue}
use Rattle.std.specs.Str.{chars}
use Rattle.std.specs.List.{list_any}
use Rattle.dotenvy.specs.Dialect.{Dialect}
use Rattle.dotenvy.specs.Characters.{byte_len, is_empty_or_comment}
use Rattle.dotenvy.specs.Items.{LookUp}
use Rattle.dotenvy_format.specs.declared.value.Piece.{Piece as CodePiece}
use Rattle.dotenvy_format.specs.inside.NextPiece.{piece_bytes}
use Rattle.dotenvy.specs.Outcome.{Assigns, trimmed, is_nothing}
use Rattle.dotenvy.specs.Statement.{IsStatement}
use Rattle.dotenvy.specs.Value.{Piece, IsValue}
use Rattle.dotenvy_editor.specs.declared.values.Said.{Said}
use Rattle.dotenvy_editor.specs.declared.values.Said.TheVariants.{Nothing, Statement, Fault}
use Rattle.dotenvy_editor.specs.declared.values.Value.{Value}
use Rattle.dotenvy_editor.specs.Assignments.{IsOldValue}
use Rattle.dotenvy_editor.specs.Warnings.{has_nul, is_among, mention}

-- the text is nothing; or a statement, with its key and what it assigns; or no statement
abbrev pub IsSaid : List ℕ → Said → Type 0
IsSaid text Nothing = IsTrue (is_nothing (trimmed text))
IsSaid text (Statement statement) =
    IsTrue (not (is_nothing (trimmed text)))
    × IsStatement (trimmed text) (chars statement.key.now) (chars statement.rest.now)
IsSaid text Fault =
    IsTrue (not (is_nothing (trimmed text)))
    × ((key assigned : List ℕ) → ¬ (IsStatement (trimmed text) key assigned))

-- what is assigned is a fault
abbrev pub IsNoValue : Dialect → List ℕ → Type 0
IsNoValue dialect assigned =
    IsTrue (not (is_empty_or_comment assigned))
    × ((pieces : List Piece) → ¬ (IsValue dialect assigned pieces))

-- what is assigned is a fault; or a value, whose part with a meaning has this length in bytes
abbrev pub TellsPart : Dialect → List ℕ → Option Value → Type 0
TellsPart dialect assigned None = IsNoValue dialect assigned
TellsPart dialect assigned (Some value) =
    (old : List ℕ) × IsOldValue dialect assigned old × (value.len ≡ byte_len old)

-- what is assigned is a fault; or it means pieces, which may have a NUL and mention a name
abbrev pub TellsPieces : Dialect → List (List ℕ) → List ℕ → Option Value → Type 0
TellsPieces dialect names assigned None = IsNoValue dialect assigned
TellsPieces dialect names assigned (Some value) =
    (pieces : List Piece) × Assigns dialect assigned pieces
    × (value.has_nul ≡ list_any has_nul pieces) × (value.mentions ≡ mention names pieces)

-- the same names, in any order
abbrev pub AreNames : List (List ℕ) → List (List ℕ) → Type 0
AreNames found names = (name : List ℕ) → is_among found name ≡ is_among names name

-- the line has so many bytes up to the end of the key
abbrev pub IsKeyEnd : List ℕ → List ℕ → List ℕ → ℕ → Type 0
IsKeyEnd text key assigned len =
    (statement : IsStatement (trimmed text) key assigned)
    × (len ≡ byte_len (statement.indent ++ (statement.prefix ++ key)))

-- the bytes begin with what the code's piece means, whatever names stand for
abbrev pub MeansFront : CodePiece → List ℕ → Type 0
MeansFront piece bytes =
    (later : LookUp → List ℕ) × ((look_up : LookUp) →
    bytes ≡ piece_bytes look_up piece ++ later look_up)
