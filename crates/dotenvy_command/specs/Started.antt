-- How a command is made, started, and how it ends.
use Rattle.std.specs.Prelude.{ℕ, ◌≡◌, ◌⊎◌, Bool, false, List, ◌∷◌, Option, Some, None, option_map, ℤ, pos}
use Rattle.std.specs.Prelude.{Result, Ok, Err}
use Rattle.std.specs.FinMap as fin
use Rattle.std.specs.IoError.{error_kind}
use Rattle.std.specs.Process.{clears_env, command_arg0, command_args, command_dir, command_program}
use Rattle.std.specs.Process.{command_var, exit_code}
use Rattle.std.specs.declared.io.Error.{Error}
use Rattle.std.specs.declared.io.ErrorKind.TheVariants.{OutOfMemory}
use Rattle.std.specs.declared.process.command.Command.{Command}
use Rattle.std.specs.declared.process.status.ExitStatus.{ExitStatus}
use Rattle.dotenvy.specs.Environment.{Texts}

-- what a command says of its start: its words, which are program and arguments, its own name, directory and variables
pub record Made : Type 0 where
  pub words : List (List ℕ)
  pub own_name : Option (List ℕ)
  pub directory : Option (List ℕ)
  pub inherits_none : Bool
  pub variable : List ℕ → Option (Option (List ℕ))

-- what this command says of its start
abbrev pub made_of : {A : Type 0} → Command A → Made
made_of command = record {
  words = command_program command ∷ command_args command;
  own_name = command_arg0 command;
  directory = command_dir command;
  inherits_none = clears_env command;
  variable = command_var command;
}

-- the command sets these names to their values, and no other
abbrev pub SetsNames : Texts → Made → Type 0
SetsNames names made = (name : List ℕ) → made.variable name ≡ option_map Some (fin.get names name)

-- the command has these words, inherits what the process has, and sets these names to their values, and no other
pub record IsMadeOf (words : List (List ℕ)) (names : Texts) (made : Made) : Type 0 where
  pub spelled : made.words ≡ words
  pub directory : made.directory ≡ None
  pub inherits : made.inherits_none ≡ false
  pub sets : SetsNames names made

-- the status is that of the command, or 1 if it has none
abbrev pub EndsWith : Option ℤ → ℕ → Type 0
EndsWith (Some code) status = code ≡ pos status
EndsWith None status = status ≡ 1

-- the result is what came of the start of such a command: its status, or the error; or an allocation failed
abbrev pub IsOfStart : (Made → Result ExitStatus Error → Type 0) → List (List ℕ) → Texts →
    Result ℕ Error → Type 0
IsOfStart ends words names (Ok status) =
    (made : Made) × IsMadeOf words names made
    × (exit : ExitStatus) × ends made (Ok exit) × EndsWith (exit_code exit) status
IsOfStart ends words names (Err fault) =
    (error_kind fault ≡ OutOfMemory)
    ⊎ ((made : Made) × IsMadeOf words names made × ends made (Err fault))
