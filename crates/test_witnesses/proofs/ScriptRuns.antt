-- A run of the program over a system that tells how each command ends.
use Rattle.std.proofs.Common.{◌≡◌, ◌∙◌, ℕ, List, sym, ap, inl, inr}
use Rattle.std.specs.Prelude.{Option, Some, None, Result, Ok, Err, option_map}
use Rattle.std.specs.FinMap as fin
use Rattle.std.specs.Process.{exit_code}
use Rattle.std.specs.declared.io.Error.{Error}
use Rattle.std.specs.declared.process.status.ExitStatus.{ExitStatus}
use Rattle.std.proofs.lemmas.Option.{none-some}
use Rattle.dotenvy.specs.Environment.{Texts}
use Rattle.dotenvy_command.specs.declared.failure.Failure.{Failure}
use Rattle.dotenvy_command.specs.declared.failure.Failure.TheVariants.{Usage, Load, Start}
use Rattle.dotenvy_command.specs.Ends.{RunsCommand}
use Rattle.dotenvy_command.specs.Started.{EndsWith, Made, SetsNames}
use Rattle.test_witnesses.specs.Scripts.{EndsByScript, IsChosen, RunsByScript}

-- what a command is given is what its environment has
was_given : (o : Option (List ℕ)) (value : List ℕ) → option_map Some o ≡ Some (Some value) → o ≡ Some value
was_given None value e = absurd (none-some (Some value) e)
was_given (Some found) value e = cc

-- a command that ended with this status ended so by the script
ended : (status : ℕ) {exit chosen : ExitStatus} → EndsWith (exit_code exit) status →
    ◌≡◌ {A = Result ExitStatus Error} (Ok exit) (Ok chosen) → EndsWith (exit_code chosen) status
ended status {exit = exit} {chosen} is e = let same : exit ≡ chosen = cc in rw same at is

-- an error is no end
never : {fault : Error} {exit : ExitStatus} → ◌≡◌ {A = Result ExitStatus Error} (Err fault) (Ok exit) → ⊥
never e = cc

-- such a run ends by the script
pub runs_by_script : {A : Type 0} (loaded : Texts) (name value : List ℕ) (given other : ExitStatus)
    (words : List (List ℕ)) (result : Result ℕ (Failure A)) →
    RunsCommand (λ names. names ≡ loaded) (EndsByScript name value given other) words result →
    RunsByScript loaded name value given other result
runs_by_script loaded name value given other words (Ok status) (names, same, (made, is, exit, ends, code)) = (
  λ has. ended status code (ends.0 (is.sets name ∙ ap (option_map Some) (ap (λ n. fin.get n name) same ∙ has))),
  λ lacks. ended status code (ends.1 (λ e. lacks (ap (λ n. fin.get n name) (sym same)
      ∙ was_given (fin.get names name) value (sym (is.sets name) ∙ e)))),
)
runs_by_script loaded name value given other words (Err (Start fault)) (names, same, inl refused) = refused
runs_by_script loaded name value given other words (Err (Start fault)) (names, same, inr (made, is, ends)) =
    absurd (never (ends.1 (λ has. never (ends.0 has))))
runs_by_script loaded name value given other words (Err (Usage usage)) runs = tt
runs_by_script loaded name value given other words (Err (Load error)) runs = tt

-- a command that sets these names ends by the script
pub ends_by_script : (names : Texts) (made : Made) (name value : List ℕ) (given other exit : ExitStatus) →
    SetsNames names made → IsChosen (fin.get names name ≡ Some value) given other (λ chosen. exit ≡ chosen) →
    EndsByScript name value given other made (Ok exit)
ends_by_script names made name value given other exit sets ends = (
  λ has. ap Ok (ends.0 (was_given (fin.get names name) value (sym (sets name) ∙ has))),
  λ lacks. ap Ok (ends.1 (λ has. lacks (sets name ∙ ap (option_map Some) has))),
)
