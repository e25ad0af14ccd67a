-- The place of a fault: how much of a text can be completed. A front of a text is a first part of it.
use Rattle.std.specs.Prelude.{ℕ, suc, ◌≤◌, ◌<◌, List, ◌++◌, length, take}
use Rattle.dotenvy_format.specs.declared.dialect.Dialect.{Dialect}
use Rattle.dotenvy_format.specs.Statement.{IsStatement}
use Rattle.dotenvy_format.specs.Value.{Piece, IsValue}

-- the text can be completed to a statement
abbrev pub BeginsStatement : List ℕ → Type 0
BeginsStatement front = (more key rest : List ℕ) × IsStatement (front ++ more) key rest

-- the text can be completed to a value
abbrev pub BeginsValue : Dialect → List ℕ → Type 0
BeginsValue dialect front =
    (more : List ℕ) × (pieces : List Piece) × IsValue dialect (front ++ more) pieces

-- the place is the length of the longest front that can be completed, in characters; the index of `LineParse` counts
-- bytes or characters (Outcome)
pub record IsPlace (Begins : List ℕ → Type 0) (text : List ℕ) (place : ℕ) : Type 0 where
  pub within : place ≤ length text
  pub completed : Begins (take place text)
  pub longest : place < length text → ¬ (Begins (take (suc place) text))
