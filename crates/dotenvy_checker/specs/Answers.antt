-- What the code returns for words, and how a run ends.
use Rattle.std.specs.Prelude.{ℕ, ◌≡◌, ◌++◌, Bool, true, List, []}
use Rattle.std.specs.Prelude.{Option, Some}
use Rattle.std.specs.Prelude.{Result, Ok, Err, if◌then◌else◌}
use Rattle.std.specs.Prelude.{codes, string_bytes}
use Rattle.std.specs.Option.{option_map}
use Rattle.std.specs.Str.{chars}
use Rattle.clap.specs.Words.{Text, fault_of, matches_of}
use Rattle.clap.specs.declared.error.kind.ErrorKind.TheVariants as kind
use Rattle.dotenvy_base.specs.Errors.{error_text}
use Rattle.dotenvy_base.specs.Output.{Sends, most_writes}
use Rattle.dotenvy_base.specs.Source.{SinkTold}
use Rattle.dotenvy_checker.specs.declared.failure.Failure.{Failure}
use Rattle.dotenvy_checker.specs.declared.failure.Failure.TheVariants.{Usage, Value, Write, Memory}
use Rattle.dotenvy_checker.specs.declared.failure.Stop.{Stop}
use Rattle.dotenvy_checker.specs.declared.failure.Stop.TheVariants as stop
use Rattle.dotenvy_checker.specs.declared.mistake.Mistake.{Mistake}
use Rattle.dotenvy_checker.specs.declared.mistake.Mistake.TheVariants as mistake
use Rattle.dotenvy_checker.specs.declared.words.Request.{Request}
use Rattle.dotenvy_checker.specs.declared.words.Request.TheVariants.{Check, Help, Version}
use Rattle.dotenvy_checker.specs.declared.words.Words.{Words}
use Rattle.dotenvy_words.specs.Found.{texts}
use Rattle.dotenvy_words.specs.Asked.{AskFor}
use Rattle.dotenvy_words.specs.Refused.{IsMistakeOf, mistake_text}
use Rattle.dotenvy_checker.specs.Words.{AreTaken, Asked, asked_of, checker}
use Rattle.dotenvy_checker.specs.Words.{mistake_of}
use Rattle.dotenvy_reports.specs.OneLine.{on_one_line}

-- what the code's words ask for, with texts as bytes
abbrev pub asked_by : {A : Type 0} → Words A → Asked
asked_by words = record {
  dialect = words.dialect;
  strict = words.strict;
  quiet = words.quiet;
  text = words.text;
  together = words.together;
  ignores_environment = words.ignores_environment;
  allowed = words.allowed.items;
  denied = words.denied.items;
  known = texts words.known.items;
  excluded = texts words.excluded.items;
  schema = option_map string_bytes words.schema;
  format = words.format;
  files = texts words.files.items;
}

-- the request is that of these words: a check of what is found in them, or what they ask for in its
-- place
abbrev pub IsRequestOf : {A : Type 0} → List Text → Request A → Type 0
IsRequestOf words (Check read) =
    AreTaken words × (asked_by read ≡ asked_of (matches_of checker words))
IsRequestOf words Help = AskFor checker words kind.DisplayHelp
IsRequestOf words Version = AskFor checker words kind.DisplayVersion

-- this is wrong with the first value of these words with which something is, as it is printed
abbrev pub IsValueMistakeOf : List Text → Mistake → Text → Type 0
IsValueMistakeOf words wrong shown =
    (fault_of checker words ≡ [])
    × ((value : Text) × (mistake_of (matches_of checker words) ≡ Some (wrong, value))
    × (shown ≡ on_one_line (chars value)))

-- the failure is that of these words, or a failed allocation
abbrev pub IsFailureOf : {A : Type 0} → List Text → Failure A → Type 0
IsFailureOf words (Usage kind word) = IsMistakeOf checker words kind (string_bytes word)
IsFailureOf words (Value wrong value) = IsValueMistakeOf words wrong (string_bytes value)
IsFailureOf words (Write error) = ⊥
IsFailureOf words (Memory refused) = Unit {0}

-- the result is the request of these words, or why they are refused, unless an allocation failed
abbrev pub AnswersWords : {A : Type 0} → List Text → Result (Request A) (Failure A) → Type 0
AnswersWords words (Ok request) = IsRequestOf words request
AnswersWords words (Err failure) = IsFailureOf words failure

-- these words are not taken, and ask neither for help nor for the version
abbrev pub AreMistaken : List Text → Type 0
AreMistaken words =
    ¬ (AreTaken words) × ¬ (AskFor checker words kind.DisplayHelp)
    × ¬ (AskFor checker words kind.DisplayVersion)

-- these words ask for a check of which nothing is printed
abbrev pub AskQuiet : List Text → Type 0
AskQuiet words =
    AreTaken words × ((asked_of (matches_of checker words)).quiet ≡ true)

-- the failure is a mistake in the words
abbrev pub IsUsage : {A : Type 0} → Failure A → Type 0
IsUsage (Usage kind word) = Unit {0}
IsUsage (Value wrong value) = Unit {0}
IsUsage (Write error) = ⊥
IsUsage (Memory refused) = ⊥

-- the failure is a failed allocation
abbrev pub IsMemoryEnd : {A : Type 0} → Failure A → Type 0
IsMemoryEnd (Usage kind word) = ⊥
IsMemoryEnd (Value wrong value) = ⊥
IsMemoryEnd (Write error) = ⊥
IsMemoryEnd (Memory refused) = Unit {0}

-- a text is printed, and the status is 0; or it can't be written, or an allocation failed before
abbrev pub Prints : {A W : Type 0} → (W → SinkTold) → W → W → Text → Result ℕ (Failure A) → Type 0
Prints {A = A} told old new text (Ok status) =
    (status ≡ 0) × Sends {A = A} told most_writes old new text (Ok tt)
Prints told old new text (Err (Usage kind word)) = ⊥
Prints told old new text (Err (Value wrong value)) = ⊥
Prints told old new text (Err (Write error)) = Sends told most_writes old new text (Err error)
Prints told old new text (Err (Memory refused)) = new ≡ old

-- what a check that stopped comes to: a file that could not be read is counted, and a report that
-- could not be written ends the run
abbrev pub CountsStop : {A : Type 0} → Stop A → Result (Unit {0}) (Failure A) → Bool → Type 0
CountsStop (stop.Read error) result unread = unread ≡ true
CountsStop (stop.Write error) result unread = result ≡ Err (Write error)
CountsStop (stop.Memory refused) result unread = unread ≡ true

-- the status: 2 if a file could not be read, else 1 if what was found counts
abbrev pub status_of : Bool → Bool → ℕ
status_of unread counts = if unread then 2 else if counts then 1 else 0

-- what is said of a mistake in a value, before the value
abbrev pub value_text : Mistake → Text
value_text mistake.UnknownKind = codes "there is no kind"
value_text mistake.AllowedError = codes "only a warning can be allowed, not"
value_text mistake.UnknownFormat = codes "there is no format"

-- what is said of a text with which this is wrong
abbrev pub refusal_text : Text → Text → Text
refusal_text wrong shown =
    codes "error: " ++ (wrong ++ (codes " '" ++ (shown ++ codes "'; try 'dotenvy_check --help'")))

-- what is printed of a failure; nothing is said of an error whose own text is not specified
abbrev pub end_text : {A : Type 0} → Failure A → Option Text
end_text (Usage kind word) = Some (refusal_text (mistake_text kind) (string_bytes word))
end_text (Value wrong value) = Some (refusal_text (value_text wrong) (string_bytes value))
end_text (Write error) = option_map (λ text. codes "error: " ++ text) (error_text error)
end_text (Memory refused) = Some (codes "error: out of memory")
