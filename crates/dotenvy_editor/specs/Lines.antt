-- The line that a setting writes: the first of those that are tried that reads back.
use Rattle.std.specs.Prelude.{ℕ, ◌≡◌, ◌⊎◌, List, [], ◌∷◌, ◌++◌, if◌then◌else◌}
use Rattle.std.specs.Str.{encode_utf8_all}
use Rattle.dotenvy.specs.Dialect.{Dialect}
use Rattle.dotenvy.specs.Items.{LookUp, meaning}
use Rattle.dotenvy.specs.LogicalLine.{HasText}
use Rattle.dotenvy.specs.Outcome.{Assigns, Pair, Says}
use Rattle.dotenvy.specs.Value.{Piece}
use Rattle.dotenvy_editor.specs.declared.writing.How.{How}
use Rattle.dotenvy_editor.specs.Assignments.{Spot, spot_text}
use Rattle.dotenvy_editor.specs.Forms.{candidates, old_forms, plain_forms}
use Rattle.dotenvy_editor.specs.Portable.{spot_forms}
use Rattle.dotenvy_editor.specs.Slices.{IsNextSlice}

-- the pieces mean this text, whatever names stand for
abbrev pub MeansText : List Piece → List ℕ → Type 0
MeansText pieces text = (look : LookUp) → meaning look pieces ≡ text

-- what is assigned means this text, whatever names stand for
abbrev pub AssignsText : Dialect → List ℕ → List ℕ → Type 0
AssignsText dialect assigned text =
    (pieces : List Piece) × Assigns dialect assigned pieces × MeansText pieces text

-- before these later bytes the line is one logical line, which gives the key this value
pub record IsWritten (dialect : Dialect) (key value line later : List ℕ) : Type 0 where
  pub text : List ℕ
  pub pieces : List Piece
  pub next : IsNextSlice line (HasText text) later
  pub says : Says dialect text (Pair key pieces)
  pub means : MeansText pieces value

-- this is the first of the texts of which P holds
abbrev pub IsFirst : (List ℕ → Type 0) → List (List ℕ) → List ℕ → Type 0
IsFirst P [] text = ⊥
IsFirst P (first ∷ others) text =
    (P first × (text ≡ first)) ⊎ (¬ (P first) × IsFirst P others text)

-- P holds of none of the texts
abbrev pub NoneIs : (List ℕ → Type 0) → List (List ℕ) → Type 0
NoneIs P [] = Unit {0}
NoneIs P (first ∷ others) = ¬ (P first) × NoneIs P others

-- the lines that a setting tries in a spot: for other readers, too, those with portable forms; or else the line as it
-- is, then those with the old quotes, then those with each form of the value
abbrev pub tried_lines : How → List ℕ → Spot → List (List ℕ)
tried_lines how value spot =
    if how.is_portable then candidates spot (spot_forms value spot)
    else spot_text spot ∷ candidates spot (old_forms spot.old value ++ plain_forms value)

-- in a spot before these later bytes a setting writes this line
pub record WritesLine (how : How) (key value : List ℕ) (spot : Spot) (later line : List ℕ)
    : Type 0 where
  pub text : List ℕ
  pub bytes : line ≡ encode_utf8_all text
  pub first :
      IsFirst (λ t. IsWritten how.dialect key value (encode_utf8_all t) later)
      (tried_lines how value spot) text

-- in a spot before these later bytes a setting can write no line
abbrev pub WritesNone : How → List ℕ → List ℕ → Spot → List ℕ → Type 0
WritesNone how key value spot later =
    NoneIs (λ t. IsWritten how.dialect key value (encode_utf8_all t) later)
    (tried_lines how value spot)
