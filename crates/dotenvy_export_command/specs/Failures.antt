-- Why nothing is written, and what is printed of it.
use Rattle.std.specs.Prelude.{◌++◌, Option, Some, codes, decimal, string_bytes}
use Rattle.std.specs.Option.{option_map}
use Rattle.clap.specs.Words.{Text}
use Rattle.dotenvy_base.specs.Errors.{error_text}
use Rattle.dotenvy_exporter.specs.declared.refusal.Reason.{Reason}
use Rattle.dotenvy_exporter.specs.declared.refusal.Reason.TheVariants as reason
use Rattle.dotenvy_export_command.specs.declared.failure.Failure.{Failure}
use Rattle.dotenvy_export_command.specs.declared.failure.Failure.TheVariants as failure
use Rattle.dotenvy_export_command.specs.declared.failure.Usage.{Usage}
use Rattle.dotenvy_export_command.specs.declared.failure.Usage.TheVariants as usage
use Rattle.dotenvy_export_command.specs.Names.{target_name}
use Rattle.dotenvy_words.specs.Refused.{mistake_text}

-- what is said of a text with which this is wrong
abbrev pub wrong_text : Text → Text → Text
wrong_text wrong shown =
    codes "error: " ++ (wrong ++ (codes " '" ++ (shown ++ codes "'; try 'dotenvy_export --help'")))

-- what is printed of a wrong call
abbrev pub usage_text : {A : Type 0} → Usage A → Text
usage_text (usage.Word kind word) = wrong_text (mistake_text kind) (string_bytes word)
usage_text usage.NoTarget = codes "error: there is no TARGET; try 'dotenvy_export --help'"
usage_text (usage.Target name) = wrong_text (codes "unknown target") (string_bytes name)

-- what is said of a pair that a target can't be given
abbrev pub refusal_text : Text → Reason → Text
refusal_text target reason.Name = target ++ codes " can't be given this name"
refusal_text target reason.Reserved =
    codes "shells keep this name; 'dotenvy_export --skip-reserved' leaves it out"
refusal_text target reason.Nul =
    codes "the value has a NUL, which " ++ (target ++ codes " can't be given")
refusal_text target reason.LineFeed =
    codes "the value has a line feed, which " ++ (target ++ codes " can't be given")
refusal_text target reason.TooLong =
    codes "the line has 65,536 bytes or more, which " ++ (target ++ codes " can't be given")
refusal_text target reason.Noncharacter =
    codes "the value has a noncharacter, such as U+FFFF, which " ++ (target ++ codes " can't be given")

-- an error, with what it is of
abbrev pub error_of : Text → Text → Text
error_of name text = codes "error: " ++ (name ++ (codes ": " ++ text))

-- what is printed of a failure; nothing is said of an error whose own text is not specified
abbrev pub failure_text : {A : Type 0} → Failure A → Option Text
failure_text (failure.Usage usage) = Some (usage_text usage)
failure_text (failure.File file error) = option_map (error_of (string_bytes file)) (error_text error)
failure_text (failure.Line file line) = Some (codes "error: " ++ (string_bytes file ++ (codes ":"
    ++ (decimal line ++ codes ": this line can't be read; dotenvy_check says why"))))
failure_text (failure.Nul file line name) = Some (codes "error: " ++ (string_bytes file ++ (codes ":"
    ++ (decimal line ++ (codes ": " ++ (string_bytes name
    ++ codes ": the value has a NUL, which no environment can hold"))))))
failure_text (failure.Refused target name reason) =
    Some (error_of (string_bytes name) (refusal_text (target_name target) reason))
failure_text (failure.Write error) =
    option_map (error_of (codes "standard output")) (error_text error)
failure_text (failure.Memory refused) = Some (codes "error: out of memory")

-- the failure is a failed allocation
abbrev pub IsMemoryEnd : {A : Type 0} → Failure A → Type 0
IsMemoryEnd (failure.Usage usage) = ⊥
IsMemoryEnd (failure.File file error) = ⊥
IsMemoryEnd (failure.Line file line) = ⊥
IsMemoryEnd (failure.Nul file line name) = ⊥
IsMemoryEnd (failure.Refused target name reason) = ⊥
IsMemoryEnd (failure.Write error) = ⊥
IsMemoryEnd (failure.Memory refused) = Unit {0}
