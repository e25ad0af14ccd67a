-- What is said on standard error.
use Rattle.std.specs.Prelude.{ℕ, ◌≡◌, ◌++◌, ◌⊎◌, List, Option, Result, Ok, Err, IfSome, codes, string_bytes}
use Rattle.std.specs.declared.alloc.AllocError.{AllocError}
use Rattle.std.specs.declared.string.String.{String}
use Rattle.dotenvy_base.specs.Output.{Sends, most_writes}
use Rattle.dotenvy_base.specs.Source.{SinkTold}
use Rattle.dotenvy_base.specs.declared.errors.Error.{Error}

-- a text is sent to a sink; whether all of it is makes no difference
abbrev pub Says : (A : Type 0) {E : Type 0} → (E → SinkTold) → E → E → List ℕ → Type 0
Says A told old new text =
    (answer : Result (Unit {0}) (Error A)) × Sends told most_writes old new text answer

-- the line, or another text if an allocation for the line failed
abbrev pub line_or : {A : Type 0} → List ℕ → Result (String A) AllocError → List ℕ
line_or otherwise (Ok line) = string_bytes line
line_or otherwise (Err refused) = otherwise

-- a line with this text, after what each line of the program begins with; nothing is said of one
-- whose text is not specified
abbrev pub IsLine : List ℕ → Option (List ℕ) → List ℕ → Type 0
IsLine start told line = IfSome told (λ text. line ≡ start ++ (text ++ codes "\n"))

-- a line with this text is said; if it can't be built, another text
abbrev pub SaysLine : (A : Type 0) {E : Type 0} → (E → SinkTold) → E → E → List ℕ → Option (List ℕ) →
    List ℕ → Type 0
SaysLine A told old new start text otherwise =
    (line : List ℕ) × ((line ≡ otherwise) ⊎ IsLine start text line) × Says A told old new line
