-- What the code returns for words.
use Rattle.std.specs.Prelude.{ℕ, ◌≡◌, ◌≢◌, ◌⊎◌, ◌≤◌, true, false, List, [], ◌∷◌, Option, Some, None}
use Rattle.std.specs.Prelude.{Result, Ok, Err, codes, length, slice_get, string_bytes}
use Rattle.std.specs.Str.{chars}
use Rattle.std.specs.declared.string.String.{String}
use Rattle.clap.specs.Words.{Row, Text, fault_of, matches_of}
use Rattle.clap.specs.declared.error.kind.ErrorKind.TheVariants as kind
use Rattle.dotenvy_reports.specs.OneLine.{on_one_line}
use Rattle.dotenvy_words.specs.Found.{texts}
use Rattle.dotenvy_words.specs.Asked.{AskFor}
use Rattle.dotenvy_words.specs.Refused.{IsMistakeOf}
use Rattle.dotenvy_edit_command.specs.declared.failure.Failure.{Failure}
use Rattle.dotenvy_edit_command.specs.declared.failure.Failure.TheVariants as failure
use Rattle.dotenvy_edit_command.specs.declared.failure.Lacked.{Lacked}
use Rattle.dotenvy_edit_command.specs.declared.failure.Lacked.TheVariants as lacked
use Rattle.dotenvy_edit_command.specs.declared.failure.Usage.{Usage}
use Rattle.dotenvy_edit_command.specs.declared.failure.Usage.TheVariants as usage
use Rattle.dotenvy_edit_command.specs.declared.words.How.{How}
use Rattle.dotenvy_edit_command.specs.declared.words.Request.{Request}
use Rattle.dotenvy_edit_command.specs.declared.words.Request.TheVariants.{Act, Help, Version}
use Rattle.dotenvy_edit_command.specs.declared.words.Task.{Task}
use Rattle.dotenvy_edit_command.specs.declared.words.Task.TheVariants as task
use Rattle.dotenvy_edit_command.specs.declared.words.Words.{Words}
use Rattle.dotenvy_edit_command.specs.Words.{Options, command_of, editor, is_command, options_of, words_of}

-- the options that the code has
abbrev pub options_by : How → Options
options_by how = record {
  dialect = how.dialect;
  is_portable = how.is_portable;
  creates = how.creates;
  is_dry = how.is_dry;
  is_exact = how.is_exact;
  is_quiet = how.is_quiet;
}

-- the word gives this value, or asks for that of standard input
abbrev pub IsGiven : {A : Type 0} → Text → Option (String A) → Type 0
IsGiven word (Some value) = (word ≢ codes "-") × (string_bytes value ≡ word)
IsGiven word None = word ≡ codes "-"

-- these words behind `set` name the file, the name, and the value; without one it is that of
-- standard input
abbrev pub AreOfSet : {A : Type 0} → List Text → Text → Text → Option (String A) → Type 0
AreOfSet words file name value =
    ((words ≡ file ∷ name ∷ []) × (value ≡ None))
    ⊎ ((word : Text) × (words ≡ file ∷ name ∷ word ∷ []) × IsGiven word value)

-- the command, with these words behind it, asks for this task with this file
abbrev pub IsTaskOf : {A : Type 0} → Text → List Text → Text → Task A → Type 0
IsTaskOf command words file (task.Set name value) =
    (command ≡ codes "set")
    × AreOfSet words file (string_bytes name) value
IsTaskOf command words file (task.Get name) =
    (command ≡ codes "get") × (words ≡ file ∷ string_bytes name ∷ [])
IsTaskOf command words file (task.Unset names) =
    (command ≡ codes "unset") × (words ≡ file ∷ texts names.items) × (names.items ≢ [])
IsTaskOf command words file (task.Rename old new) =
    (command ≡ codes "rename") × (words ≡ file ∷ string_bytes old ∷ string_bytes new ∷ [])

-- a command lacks the first word that is not among these
abbrev pub IsLacked : Text → List Text → Lacked → Type 0
IsLacked command words lacked.File = words ≡ []
IsLacked command words lacked.Name = (command ≢ codes "rename") × (length words ≡ 1)
IsLacked command words lacked.Old = (command ≡ codes "rename") × (length words ≡ 1)
IsLacked command words lacked.New = (command ≡ codes "rename") × (length words ≡ 2)

-- this word is lacked
abbrev pub IsLackOf : {A : Type 0} → Lacked → Usage A → Type 0
IsLackOf lacked (usage.Lacks other) = other ≡ lacked
IsLackOf lacked other = ⊥

-- this word is one too many, as it is printed
abbrev pub IsUnexpected : {A : Type 0} → Text → Usage A → Type 0
IsUnexpected word (usage.Unexpected shown) = string_bytes shown ≡ on_one_line (chars word)
IsUnexpected word other = ⊥

-- how many words the command takes at most; any number if it is `unset`
abbrev pub IsMost : Text → ℕ → Type 0
IsMost command most =
    ((command ≡ codes "get") × (most ≡ 2))
    ⊎ (((command ≡ codes "set") ⊎ (command ≡ codes "rename")) × (most ≡ 3))

-- this is wrong with a command that has these words behind it
abbrev pub IsCommandUsage : {A : Type 0} → Text → List Text → Usage A → Type 0
IsCommandUsage command words (usage.Word kind word) = ⊥
IsCommandUsage command words usage.NoCommand = ⊥
IsCommandUsage command words (usage.Command shown) =
    (is_command command ≡ false) × (string_bytes shown ≡ on_one_line (chars command))
IsCommandUsage command words (usage.Lacks lacked) =
    (is_command command ≡ true) × IsLacked command words lacked
IsCommandUsage {A = A} command words (usage.Unexpected shown) =
    (most : ℕ) × (word : Text) × IsMost command most × (slice_get words most ≡ Some word)
    × IsUnexpected {A = A} word (usage.Unexpected shown)

-- the failure is a wrong call of which this holds, or a failed allocation
abbrev pub IsUsageEnd : {A : Type 0} → (Usage A → Type 0) → Failure A → Type 0
IsUsageEnd Holds (failure.Usage usage) = Holds usage
IsUsageEnd Holds (failure.Memory refused) = Unit {0}
IsUsageEnd Holds other = ⊥

-- the result is the file and the task of this command, or why it is refused
abbrev pub AnswersCommand : {A : Type 0} → Text → List Text →
    Result (String A × Task A) (Failure A) → Type 0
AnswersCommand command words (Ok (file, task)) = IsTaskOf command words (string_bytes file) task
AnswersCommand command words (Err failure) = IsUsageEnd (IsCommandUsage command words) failure

-- this is asked for by what was found
abbrev pub AsksFor : {A : Type 0} → List Row → Words A → Type 0
AsksFor rows words =
    (command : Text) × (command_of rows ≡ Some command)
    × IsTaskOf command (words_of rows) (string_bytes words.file) words.task
    × (options_by words.how ≡ options_of rows)

-- what was found names no task: there is no command, or it is wrong
abbrev pub IsFoundUsage : {A : Type 0} → List Row → Usage A → Type 0
IsFoundUsage rows usage.NoCommand = command_of rows ≡ None
IsFoundUsage rows other =
    (command : Text) × (command_of rows ≡ Some command)
    × IsCommandUsage command (words_of rows) other

-- the result is what was found, or why it is refused
abbrev pub AnswersFound : {A : Type 0} → List Row → Result (Words A) (Failure A) → Type 0
AnswersFound rows (Ok words) = AsksFor rows words
AnswersFound rows (Err failure) = IsUsageEnd (IsFoundUsage rows) failure

-- this is wrong with these words
abbrev pub IsUsageOf : {A : Type 0} → List Text → Usage A → Type 0
IsUsageOf words (usage.Word kind word) = IsMistakeOf editor words kind (string_bytes word)
IsUsageOf words other = (fault_of editor words ≡ []) × IsFoundUsage (matches_of editor words) other

-- the request is that of these words
abbrev pub IsRequestOf : {A : Type 0} → List Text → Request A → Type 0
IsRequestOf words (Act asked) =
    (fault_of editor words ≡ []) × AsksFor (matches_of editor words) asked
IsRequestOf words Help = AskFor editor words kind.DisplayHelp
IsRequestOf words Version = AskFor editor words kind.DisplayVersion

-- the result is the request of these words, or why they are refused, unless an allocation failed
abbrev pub AnswersWords : {A : Type 0} → List Text → Result (Request A) (Failure A) → Type 0
AnswersWords words (Ok request) = IsRequestOf words request
AnswersWords words (Err failure) = IsUsageEnd (IsUsageOf words) failure

-- the command takes so many words behind it: a file, and what is done with it
abbrev pub Takes : Text → ℕ → Type 0
Takes command count =
    ((command ≡ codes "set") × (2 ≤ count) × (count ≤ 3))
    ⊎ (((command ≡ codes "get") × (count ≡ 2))
    ⊎ (((command ≡ codes "unset") × (2 ≤ count))
    ⊎ ((command ≡ codes "rename") × (count ≡ 3))))

-- words are taken: `clap` takes them, and they have a command with as many words as it takes
abbrev pub AreTaken : List Text → Type 0
AreTaken words =
    (fault_of editor words ≡ [])
    × ((command : Text) × (command_of (matches_of editor words) ≡ Some command)
    × Takes command (length (words_of (matches_of editor words))))

-- these words are not taken, and ask neither for help nor for the version
abbrev pub AreMistaken : List Text → Type 0
AreMistaken words =
    ¬ (AreTaken words) × ¬ (AskFor editor words kind.DisplayHelp)
    × ¬ (AskFor editor words kind.DisplayVersion)
