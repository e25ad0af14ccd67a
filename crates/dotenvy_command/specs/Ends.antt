-- How a run of the program ends.
use Rattle.std.specs.Prelude.{ℕ, ◌≡◌, List, Result, Ok, Err}
use Rattle.std.specs.declared.io.Error.{Error as SystemError}
use Rattle.std.specs.declared.process.status.ExitStatus.{ExitStatus}
use Rattle.dotenvy.specs.Environment.{Texts}
use Rattle.dotenvy.specs.Error.{Error}
use Rattle.dotenvy_command.specs.declared.failure.Failure.{Failure}
use Rattle.dotenvy_command.specs.declared.failure.Failure.TheVariants.{Usage, Load, Start}
use Rattle.dotenvy_command.specs.Answers.{SaysUsage}
use Rattle.dotenvy_command.specs.Failures.{IsMemoryFailure}
use Rattle.dotenvy_command.specs.Started.{IsOfStart, Made}
use Rattle.dotenvy_command.specs.Words as words

-- the run ends because the words are refused for this reason, unless an allocation failed
abbrev pub EndsByUsage : {A : Type 0} → words.Usage → Failure A → Type 0
EndsByUsage usage (Usage found) = SaysUsage usage found
EndsByUsage usage (Load error) = ⊥
EndsByUsage usage (Start fault) = ⊥

-- the run ends with status 0 or an error of a load, and P holds for the result of that load
abbrev pub EndsAs : {A : Type 0} → (Result (Unit {0}) (Error A) → Type 0) → Result ℕ (Failure A) →
    Type 0
EndsAs P (Ok status) = (status ≡ 0) × P (Ok tt)
EndsAs P (Err (Load error)) = P (Err error)
EndsAs P (Err (Usage usage)) = ⊥
EndsAs P (Err (Start fault)) = ⊥

-- the error is one of the words
abbrev pub IsUsage : {A : Type 0} → Failure A → Type 0
IsUsage (Usage usage) = Unit {0}
IsUsage (Load error) = ⊥
IsUsage (Start fault) = ⊥

-- the run ends because an allocation failed while the words were read
abbrev pub IsEarly : {A : Type 0} → Result ℕ (Failure A) → Type 0
IsEarly (Ok status) = ⊥
IsEarly (Err (Usage usage)) = IsMemoryFailure usage
IsEarly (Err (Load error)) = ⊥
IsEarly (Err (Start fault)) = ⊥

-- the error is one of a load, or of the command
abbrev pub IsRunFault : {A : Type 0} → Failure A → Type 0
IsRunFault (Usage usage) = ⊥
IsRunFault (Load error) = Unit {0}
IsRunFault (Start fault) = Unit {0}

-- a status, or an error of a start, is what came of the start of a command of these words, with
-- names set that were loaded so
abbrev pub RunsCommand : {A : Type 0} → (Texts → Type 0) →
    (Made → Result ExitStatus SystemError → Type 0) → List (List ℕ) → Result ℕ (Failure A) → Type 0
RunsCommand loads ends words (Ok status) =
    (names : Texts) × loads names × IsOfStart ends words names (Ok status)
RunsCommand loads ends words (Err (Start fault)) =
    (names : Texts) × loads names × IsOfStart ends words names (Err fault)
RunsCommand loads ends words (Err (Usage usage)) = Unit {0}
RunsCommand loads ends words (Err (Load error)) = Unit {0}
