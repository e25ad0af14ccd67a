-- How commands end over a system that tells it.
use Rattle.std.specs.Prelude.{ℕ, ◌≡◌, List, Some, Result, Ok, Err}
use Rattle.std.specs.FinMap as fin
use Rattle.std.specs.IoError.{error_kind}
use Rattle.std.specs.Process.{exit_code}
use Rattle.std.specs.declared.io.Error.{Error}
use Rattle.std.specs.declared.io.ErrorKind.TheVariants.{OutOfMemory}
use Rattle.std.specs.declared.process.status.ExitStatus.{ExitStatus}
use Rattle.dotenvy.specs.Environment.{Texts}
use Rattle.dotenvy_command.specs.declared.failure.Failure.{Failure}
use Rattle.dotenvy_command.specs.declared.failure.Failure.TheVariants.{Usage, Load, Start}
use Rattle.dotenvy_command.specs.Started.{EndsWith, Made}

-- one of two values: this one where the fact holds, else that one
abbrev pub IsChosen : {T : Type 0} → Type 0 → T → T → (T → Type 0) → Type 0
IsChosen fact this that P = (fact → P this) × (¬ fact → P that)

-- a command that is given the name with the value ends with the first status, else with the second
abbrev pub EndsByScript : List ℕ → List ℕ → ExitStatus → ExitStatus → Made →
    Result ExitStatus Error → Type 0
EndsByScript name value given other made result =
    IsChosen (made.variable name ≡ Some (Some value)) given other (λ exit. result ≡ Ok exit)

-- a run with these names ends with the status of such a command; the command is always started,
-- unless an allocation fails
abbrev pub RunsByScript : {A : Type 0} → Texts → List ℕ → List ℕ → ExitStatus → ExitStatus →
    Result ℕ (Failure A) → Type 0
RunsByScript names name value given other (Ok status) =
    IsChosen (fin.get names name ≡ Some value) given other
    (λ exit. EndsWith (exit_code exit) status)
RunsByScript names name value given other (Err (Start fault)) = error_kind fault ≡ OutOfMemory
RunsByScript names name value given other (Err (Usage usage)) = Unit {0}
RunsByScript names name value given other (Err (Load error)) = Unit {0}
