-- What the first pass over a line says, in the words of the format.
use Rattle.std.specs.Prelude.{ℕ, ◌≡◌, ◌⊎◌, not, List, [], IsTrue, Option, Some, None}
use Rattle.std.specs.Prelude.{Result, Ok, Err, IfOk, string_bytes}
use Rattle.std.specs.Str.{chars, encode_utf8_all}
use Rattle.std.specs.declared.string.String.{String}
use Rattle.dotenvy_base.specs.declared.errors.Error.{Error}
use Rattle.dotenvy_base.specs.Errors.{IsMemory, IsLineParseOf}
use Rattle.dotenvy_format.specs.declared.dialect.Dialect.{Dialect}
use Rattle.dotenvy_items.specs.declared.parse.Declaration.{Declaration}
use Rattle.dotenvy_items.specs.declared.parse.Value.{Value}
use Rattle.dotenvy_items.specs.declared.parse.Fault.{Fault}
use Rattle.dotenvy_format.specs.Characters.{is_empty_or_comment}
use Rattle.dotenvy_format.specs.Statement.{IsStatement}
use Rattle.dotenvy_format.specs.Value.{Piece, IsValue}
use Rattle.dotenvy_format.specs.Outcome.{Nothing, Fault as SaysFault, Says, trimmed, is_nothing}
use Rattle.dotenvy_format.specs.Items.{LookUp, meaning}
use Rattle.dotenvy_items.specs.inside.ValuePasses.{KnowsMeaning}

-- what is assigned is nothing or a comment; or it is a value, and what is known of it is so
abbrev pub IsAssigned : (dialect : Dialect) → LookUp → List ℕ → List Piece → Option Value → Type 0
IsAssigned dialect look_up rest pieces None = IsTrue (is_empty_or_comment rest) × (pieces ≡ [])
IsAssigned dialect look_up rest pieces (Some value) =
    IsTrue (not (is_empty_or_comment rest)) × (chars value.text.now ≡ rest)
    × IsValue dialect rest pieces × KnowsMeaning look_up value pieces

-- the line declares this
pub record IsDeclared (dialect : Dialect) (look_up : LookUp) (line : List ℕ)
    (declaration : Declaration) : Type 0 where
  pub some : IsTrue (not (is_nothing (trimmed line)))
  pub rest : List ℕ
  pub statement : IsStatement (trimmed line) (chars declaration.key.now) rest
  pub pieces : List Piece
  pub is_assigned : IsAssigned dialect look_up rest pieces declaration.value

-- what the line says
abbrev pub Scans : (dialect : Dialect) → LookUp → List ℕ → Result (Option Declaration) Fault →
    Type 0
Scans dialect look_up line (Ok None) = Says dialect line Nothing
Scans dialect look_up line (Ok (Some declaration)) = IsDeclared dialect look_up line declaration
Scans dialect look_up line (Err fault) =
    Says dialect line (SaysFault (chars fault.text.now) fault.index)

-- memory was refused, or the error is the fault that the line says
abbrev pub IsFaultOf : {A : Type 0} → Dialect → List ℕ → Error A → Type 0
IsFaultOf dialect line e =
    IsMemory e
    ⊎ ((text : List ℕ) × (index : ℕ) × Says dialect line (SaysFault text index)
    × IsLineParseOf text index e)

-- the key, and the meaning of the pieces
pub record IsPairOf {A : Type 0} (look_up : LookUp) (declaration : Declaration)
    (pieces : List Piece)
    (pair : String A × String A) : Type 0 where
  pub key : string_bytes pair.0 ≡ declaration.key.now
  pub value : string_bytes pair.1 ≡ encode_utf8_all (meaning look_up pieces)

-- on Ok the pair says the key, and the meaning of what the declaration's value was read from
abbrev pub GivesPair : {A : Type 0} → Dialect → LookUp → Declaration →
    Result (String A × String A) (Error A) → Type 0
GivesPair dialect look_up declaration answer =
    (rest : List ℕ) (pieces : List Piece) →
    IsAssigned dialect look_up rest pieces declaration.value →
    IfOk answer (IsPairOf look_up declaration pieces)
