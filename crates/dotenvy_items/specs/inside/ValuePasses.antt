-- What the two passes over a value give: its length, and its meaning.
use Rattle.std.specs.Prelude.{ℕ, ◌≡◌, ◌≤◌, ◌+◌, ◌-◌, ◌^◌, min, List, ◌++◌, Option, Result, Ok, Err}
use Rattle.std.specs.Prelude.{Some, MatchOption}
use denote.Ref.{Bor}
use Rattle.std.specs.Str.{chars, encode_utf8_all}
use Rattle.dotenvy_format.specs.declared.dialect.Dialect.{Dialect}
use Rattle.dotenvy_format.specs.Characters.{byte_len}
use Rattle.dotenvy_format.specs.declared.text.Quoting.TheVariants.{Unquoted}
use Rattle.dotenvy_format.specs.Items.{LookUp, meaning, text_of}
use Rattle.dotenvy_format.specs.Value.{Piece}
use Rattle.dotenvy_items.specs.declared.meaning.Known.{Known}
use Rattle.dotenvy_items.specs.declared.parse.Value.{Value}
use Rattle.dotenvy_format.specs.inside.ReadValue.{base, read_value}
use Rattle.dotenvy_format.specs.inside.NextPiece.{StopsAt}

-- the number, or the greatest `usize` where that is less
abbrev pub saturated : ℕ → ℕ
saturated n = min n (2 ^ 64 - 1)

-- the text that is known of a name is the one that it stands for
abbrev pub StandsFor : LookUp → Known → Type 0
StandsFor look_up known = known.text.now ≡ encode_utf8_all (text_of look_up (chars known.name.now))

-- a name that is known, if any, stands for its text
abbrev pub IsKnown : LookUp → Option Known → Type 0
IsKnown look_up known = MatchOption known (Unit {0}) (StandsFor look_up)

-- what is known of a value is so: how many bytes its pieces mean, the one text that they mean, and
-- what its last name stands for
pub record KnowsMeaning (look_up : LookUp) (value : Value) (pieces : List Piece) : Type 0 where
  pub len : value.len ≡ saturated (byte_len (meaning look_up pieces))
  pub whole :
      MatchOption value.whole (Unit {0})
      (λ text. text.now ≡ encode_utf8_all (meaning look_up pieces))
  pub known : IsKnown look_up value.known

-- the text is a value, and what is known of it is so
abbrev pub IsMeasured : (dialect : Dialect) → LookUp → Value → Type 0
IsMeasured dialect look_up value =
    MatchOption (read_value dialect (chars value.text.now) (base Unquoted)) ⊥
    (KnowsMeaning look_up value)

-- the text is a value in each dialect, and means this text alone, whatever names stand for
abbrev pub MeansAlone : List ℕ → Bor (List ℕ) → Type 0
MeansAlone value text =
    (dialect : Dialect) → (pieces : List Piece)
    × (read_value dialect value (base Unquoted) ≡ Some pieces)
    × ((look_up : LookUp) → text.now ≡ encode_utf8_all (meaning look_up pieces))

-- the value, measured; or what is left where no value goes on
abbrev pub Measures : (dialect : Dialect) → LookUp → List ℕ → Result Value (Bor (List ℕ)) → Type 0
Measures dialect look_up value (Ok measured) =
    (chars measured.text.now ≡ value) × IsMeasured dialect look_up measured
Measures dialect look_up value (Err left) = StopsAt dialect (base Unquoted) value (chars left.now)

-- the text is a value, and what it means fits after so many bytes
abbrev pub HasRoom : (dialect : Dialect) → LookUp → List ℕ → ℕ → ℕ → Type 0
HasRoom dialect look_up value len capacity =
    MatchOption (read_value dialect value (base Unquoted)) ⊥
    (λ pieces. len + byte_len (meaning look_up pieces) ≤ capacity)

-- what the value means was appended
abbrev pub Appends : (dialect : Dialect) → LookUp → List ℕ → List ℕ → List ℕ → Type 0
Appends dialect look_up value old new =
    MatchOption (read_value dialect value (base Unquoted)) ⊥
    (λ pieces. new ≡ old ++ encode_utf8_all (meaning look_up pieces))
