-- What the program prints of its errors.
use Rattle.std.specs.Prelude.{ℕ, ◌++◌, List, Option, Some, None, codes, string_bytes}
use Rattle.std.specs.Option.{option_map}
use Rattle.dotenvy.specs.Errors.{error_text}
use Rattle.dotenvy_command.specs.declared.failure.Failure.{Failure}
use Rattle.dotenvy_command.specs.declared.failure.Failure.TheVariants as failure
use Rattle.dotenvy_command.specs.declared.failure.Usage.{Usage}
use Rattle.dotenvy_command.specs.declared.failure.Usage.TheVariants.{MissingCommand, MissingFile, UnknownOption, Memory}

-- the error is a failed allocation
abbrev pub IsMemoryFailure : {A : Type 0} → Usage A → Type 0
IsMemoryFailure MissingCommand = ⊥
IsMemoryFailure MissingFile = ⊥
IsMemoryFailure (UnknownOption word) = ⊥
IsMemoryFailure (Memory error) = Unit {0}

-- what is printed of refused words, after `error: `
abbrev pub usage_text : {A : Type 0} → Usage A → List ℕ
usage_text MissingCommand = codes "missing required argument <COMMAND>"
usage_text MissingFile = codes "missing value of <FILE>"
usage_text (UnknownOption word) = codes "unknown option '" ++ (string_bytes word ++ codes "'")
usage_text (Memory error) = codes "out of memory"

-- what is printed of an error; nothing is said of an error whose own text is not specified
abbrev pub failure_text : {A : Type 0} → Failure A → Option (List ℕ)
failure_text (failure.Usage usage) = Some (codes "error: " ++ usage_text usage)
failure_text (failure.Load error) =
    option_map (λ text. codes "error: failed to load environment: " ++ text) (error_text error)
failure_text (failure.Start fault) = None
