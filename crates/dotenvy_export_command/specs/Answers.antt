-- What the code returns for words, and how a run ends.
use Rattle.std.specs.Prelude.{◌≡◌, Bool, List, [], map, Some, None}
use Rattle.std.specs.Prelude.{Result, Ok, Err, codes, string_bytes}
use Rattle.std.specs.Str.{chars}
use Rattle.clap.specs.Words.{Row, Text, fault_of, first_of, matches_of}
use Rattle.clap.specs.declared.error.kind.ErrorKind.TheVariants as kind
use Rattle.dotenvy_reports.specs.OneLine.{on_one_line}
use Rattle.dotenvy_export_command.specs.declared.failure.Failure.{Failure}
use Rattle.dotenvy_export_command.specs.declared.failure.Failure.TheVariants as failure
use Rattle.dotenvy_export_command.specs.declared.failure.Usage.{Usage}
use Rattle.dotenvy_export_command.specs.declared.failure.Usage.TheVariants as usage
use Rattle.dotenvy_export_command.specs.declared.words.How.{How}
use Rattle.dotenvy_export_command.specs.declared.words.Request.{Request}
use Rattle.dotenvy_export_command.specs.declared.words.Request.TheVariants.{Export, Help, Version}
use Rattle.dotenvy_export_command.specs.declared.words.Words.{Words}
use Rattle.dotenvy_export_command.specs.Files.{AreFilesOf, named_of}
use Rattle.dotenvy_export_command.specs.Names.{target_named}
use Rattle.dotenvy_words.specs.Asked.{AskFor}
use Rattle.dotenvy_words.specs.Refused.{IsMistakeOf}
use Rattle.dotenvy_export_command.specs.Words.{AreTaken, Asked, asked_of, exporter}

-- what is asked for by this, with or without the names of the environment
abbrev pub asks : How → Bool → Asked
asks how alone = record {
  target = Some how.target;
  dialect = how.dialect;
  mode = how.mode;
  skips_reserved = how.skips_reserved;
  ignores_environment = alone;
}

-- what the code's words ask for, but for the files
abbrev pub asked_by : {A : Type 0} → Words A → Asked
asked_by words = asks words.how words.ignores_environment

-- the request is that of these words: an export of what is found in them, or what they ask for in its
-- place
abbrev pub IsRequestOf : {A : Type 0} → List Text → Request A → Type 0
IsRequestOf words (Export read) =
    AreTaken words × (asked_by read ≡ asked_of (matches_of exporter words))
    × AreFilesOf (matches_of exporter words) (map named_of read.files.items)
IsRequestOf words Help = AskFor exporter words kind.DisplayHelp
IsRequestOf words Version = AskFor exporter words kind.DisplayVersion

-- no target is named by what was found; or one that there is not is, which is printed so
abbrev pub IsTargetUsage : {A : Type 0} → List Row → Usage A → Type 0
IsTargetUsage rows (usage.Word kind word) = ⊥
IsTargetUsage rows usage.NoTarget = first_of (codes "target") rows ≡ None
IsTargetUsage rows (usage.Target shown) =
    (name : Text) × (first_of (codes "target") rows ≡ Some name)
    × (target_named name ≡ None) × (string_bytes shown ≡ on_one_line (chars name))

-- the failure is a target that is not named, or that there is not
abbrev pub IsTargetFailure : {A : Type 0} → List Row → Failure A → Type 0
IsTargetFailure rows (failure.Usage usage) = IsTargetUsage rows usage
IsTargetFailure rows (failure.File file error) = ⊥
IsTargetFailure rows (failure.Line file line) = ⊥
IsTargetFailure rows (failure.Nul file line name) = ⊥
IsTargetFailure rows (failure.Refused target name reason) = ⊥
IsTargetFailure rows (failure.Write error) = ⊥
IsTargetFailure rows (failure.Memory refused) = ⊥

-- this is wrong with these words
abbrev pub IsUsageOf : {A : Type 0} → List Text → Usage A → Type 0
IsUsageOf words (usage.Word kind word) = IsMistakeOf exporter words kind (string_bytes word)
IsUsageOf {A = A} words usage.NoTarget =
    (fault_of exporter words ≡ []) × IsTargetUsage {A = A} (matches_of exporter words) usage.NoTarget
IsUsageOf {A = A} words (usage.Target name) =
    (fault_of exporter words ≡ [])
    × IsTargetUsage {A = A} (matches_of exporter words) (usage.Target name)

-- the failure is what is wrong with these words, or a failed allocation
abbrev pub IsFailureOf : {A : Type 0} → List Text → Failure A → Type 0
IsFailureOf words (failure.Usage usage) = IsUsageOf words usage
IsFailureOf words (failure.File file error) = ⊥
IsFailureOf words (failure.Line file line) = ⊥
IsFailureOf words (failure.Nul file line name) = ⊥
IsFailureOf words (failure.Refused target name reason) = ⊥
IsFailureOf words (failure.Write error) = ⊥
IsFailureOf words (failure.Memory refused) = Unit {0}

-- the result is the request of these words, or why they are refused, unless an allocation failed
abbrev pub AnswersWords : {A : Type 0} → List Text → Result (Request A) (Failure A) → Type 0
AnswersWords words (Ok request) = IsRequestOf words request
AnswersWords words (Err failure) = IsFailureOf words failure

-- these words are not taken, and ask neither for help nor for the version
abbrev pub AreMistaken : List Text → Type 0
AreMistaken words =
    ¬ (AreTaken words) × ¬ (AskFor exporter words kind.DisplayHelp)
    × ¬ (AskFor exporter words kind.DisplayVersion)
