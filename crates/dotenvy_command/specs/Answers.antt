-- What the code returns for words, said by the definitions of words.
use Rattle.std.specs.Prelude.{ℕ, ◌≡◌, List, map, Result, Ok, Err, string_bytes}
use Rattle.std.specs.declared.string.String.{String}
use Rattle.dotenvy_command.specs.declared.command_line.CommandLine.{CommandLine as Line}
use Rattle.dotenvy_command.specs.declared.failure.Usage.{Usage as Refusal}
use Rattle.dotenvy_command.specs.declared.failure.Usage.TheVariants as refusal
use Rattle.dotenvy_command.specs.Words.{CommandLine, Usage, MissingCommand, MissingFile, UnknownOption, HasUsage}

-- words, as bytes
abbrev pub texts : {A : Type 0} → List (String A) → List (List ℕ)
texts words = map string_bytes words

-- a command line of the code, with its words as bytes
abbrev pub line_of : {A : Type 0} → Line A → CommandLine
line_of line = record {
  list = line.list;
  dialect = line.dialect;
  files = texts line.files.items;
  command = texts line.command.items;
}

-- the code refuses words for this reason; a failed allocation says nothing of the words
abbrev pub SaysUsage : {A : Type 0} → Usage → Refusal A → Type 0
SaysUsage usage refusal.MissingCommand = usage ≡ MissingCommand
SaysUsage usage refusal.MissingFile = usage ≡ MissingFile
SaysUsage usage (refusal.UnknownOption text) = usage ≡ UnknownOption (string_bytes text)
SaysUsage usage (refusal.Memory error) = Unit {0}

-- the result of the code is this answer; a failed allocation says nothing of the words
abbrev pub SaysAnswer : {A : Type 0} → Result CommandLine Usage → Result (Line A) (Refusal A) →
    Type 0
SaysAnswer answer (Ok line) = answer ≡ Ok (line_of line)
SaysAnswer (Ok line) (Err (refusal.Memory error)) = Unit {0}
SaysAnswer (Ok line) (Err usage) = ⊥
SaysAnswer (Err usage) (Err found) = SaysUsage usage found

-- the result is what these words ask for, or why they are refused, unless an allocation failed
abbrev pub AnswersWords : {A : Type 0} → List (List ℕ) → Result (Line A) (Refusal A) → Type 0
AnswersWords words result =
    (answer : Result CommandLine Usage) × HasUsage words answer × SaysAnswer answer result
