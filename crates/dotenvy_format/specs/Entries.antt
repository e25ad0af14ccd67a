-- The entries of a file's bytes: what its logical lines say, in order.
use Rattle.std.specs.Prelude.{◌≡◌, ◌≢◌, ℕ, ◌+◌, List, [], ◌∷◌, ◌++◌, drop, Option}
use Rattle.std.specs.declared.io.ErrorKind.{ErrorKind}
use Rattle.std.specs.declared.io.ErrorKind.TheVariants.{InvalidData}
use Rattle.dotenvy_format.specs.declared.dialect.Dialect.{Dialect}
use Rattle.dotenvy_format.specs.PhysicalLines.{line_texts}
use Rattle.dotenvy_format.specs.LogicalLine.{Logical, Skip, HasText, StaysOpen, Broken, IsNext}
use Rattle.dotenvy_format.specs.Value.{Piece}
use Rattle.dotenvy_format.specs.Outcome.{Outcome, Nothing, Pair, Fault, Says}

-- an error in a file: a wrong line, a failed read or broken line, a NUL in a value, or a failed allocation
pub data Failure : Type 0 where
  LineParse : List ℕ → ℕ → Failure
  Io : ErrorKind → Failure
  Nul : List ℕ → Failure
  Memory : Failure

-- an entry: a key with the pieces of its value, or an error in its place
pub data Entry : Type 0 where
  Declares : List ℕ → List Piece → Entry
  Fails : Failure → Entry

-- the physical lines are these logical lines, one after another, until none is left
abbrev pub AreLogicalLines : List (Option (List ℕ)) → List Logical → Type 0
AreLogicalLines lines [] = lines ≡ []
AreLogicalLines lines (first ∷ others) =
    (lines ≢ [])
    × (count : ℕ) × IsNext lines count first × AreLogicalLines (drop count lines) others

-- the first `count` physical lines are these logical lines, one after another
abbrev pub AreFirstLines : List (Option (List ℕ)) → ℕ → List Logical → Type 0
AreFirstLines lines count [] = count ≡ 0
AreFirstLines lines count (first ∷ others) =
    (these later : ℕ) × IsNext lines these first × AreFirstLines (drop these lines) later others
    × (count ≡ these + later)

-- the entries of an outcome: none, a declaration, or an error
abbrev pub outcome_entries : Outcome → List Entry
outcome_entries Nothing = []
outcome_entries (Pair key pieces) = Declares key pieces ∷ []
outcome_entries (Fault text index) = Fails (LineParse text index) ∷ []

-- one logical line has these entries
abbrev pub Gives : Dialect → Logical → List Entry → Type 0
Gives dialect Skip entries = entries ≡ []
Gives dialect (HasText text) entries =
    (outcome : Outcome) × Says dialect text outcome × (entries ≡ outcome_entries outcome)
Gives dialect (StaysOpen text index) entries = entries ≡ Fails (LineParse text index) ∷ []
Gives dialect Broken entries = entries ≡ Fails (Io InvalidData) ∷ []

-- these logical lines have these entries, in order
abbrev pub GiveAll : Dialect → List Logical → List Entry → Type 0
GiveAll dialect [] entries = entries ≡ []
GiveAll dialect (first ∷ others) entries =
    (front after : List Entry) × Gives dialect first front × GiveAll dialect others after
    × (entries ≡ front ++ after)

-- the bytes have these entries
pub record HasEntries (dialect : Dialect) (bytes : List ℕ) (entries : List Entry) : Type 0 where
  pub lines : List Logical
  pub are_lines : AreLogicalLines (line_texts bytes) lines
  pub give : GiveAll dialect lines entries
