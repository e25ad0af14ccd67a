-- What one logical line of a load leaves and answers.
use Rattle.std.specs.Prelude.{ℕ, ◌≡◌, ◌⊎◌, true, false, List, Result, Ok, Err, string_bytes}
use Rattle.std.specs.Prelude.{IsTrue, OnOk, OnErr, IfErr, MatchResult}
use Rattle.std.specs.Str.{chars}
use Rattle.std.specs.FinMap.{insert}
use Rattle.std.specs.declared.string.String.{String}
use Rattle.dotenvy_format.specs.declared.dialect.Dialect.{Dialect}
use Rattle.dotenvy_base.specs.declared.errors.Error.{Error}
use Rattle.dotenvy_items.specs.declared.loads.Mode.{Mode as CodeMode}
use Rattle.dotenvy_items.specs.declared.loads.Mode.TheVariants.{Keep as Keeps, Replace as Replaces}
use Rattle.dotenvy_base.specs.Errors.{IsMemory, IsMemoryErr, IsNulOf}
use Rattle.dotenvy_format.specs.Outcome.{Outcome, Says}
use Rattle.dotenvy_format.specs.Entries.{outcome_entries}
use Rattle.dotenvy_format.specs.Run.{Mode, Keep, Replace, run, sets}
use Rattle.dotenvy_base.specs.Environment.{Texts, Env, value_ok}
use Rattle.dotenvy_items.specs.Remembered.{Remembered}
use Rattle.dotenvy_items.specs.Meaning.{values_of, recalled_of}
use Rattle.dotenvy_items.specs.LoadsRest.{Leaves, LoadsRest}
use Rattle.dotenvy_items.specs.LoadStops.{Stops}
use Rattle.dotenvy_lines.specs.inside.Splitter.{last_lines}
use Rattle.dotenvy_items.specs.Iter.{IterState, IsOpen}
use Rattle.dotenvy_items.specs.inside.ItemStep.{lines_after}

-- the mode that the code names
abbrev pub mode_of : CodeMode → Mode
mode_of (Keeps guess) = Keep
mode_of Replaces = Replace

-- a name that is set gets its value, or nothing changes: for want of memory, or for a NUL in the
-- value, where the fault is the name; a name that the mode doesn't set changes nothing
pub record SetsIn {A : Type 0} (mode : Mode) (old : Env) (pair : String A × String A)
    (answer : Result (Unit {0}) (Error A)) (new : Env) : Type 0 where
  pub kept :
      sets mode (values_of old.names) (chars (string_bytes pair.0)) ≡ false →
      (answer ≡ Ok tt) × (new ≡ old)
  pub ok :
      sets mode (values_of old.names) (chars (string_bytes pair.0)) ≡ true →
      OnOk answer
      (new ≡ record old { names = insert old.names (string_bytes pair.0) (string_bytes pair.1) })
  pub same : OnErr answer (new ≡ old)
  pub good : IsTrue (value_ok (string_bytes pair.1)) → IfErr answer IsMemory
  pub nul :
      sets mode (values_of old.names) (chars (string_bytes pair.0)) ≡ true →
      value_ok (string_bytes pair.1) ≡ false →
      MatchResult answer (λ _. ⊥) (IsNulOf (string_bytes pair.0))

-- memory was refused, and nothing changed; or what the line says was loaded
abbrev pub LoadsLine : {A : Type 0} → Mode → Dialect → Remembered → List ℕ →
    Texts → Result (Unit {0}) (Error A) → Texts → Type 0
LoadsLine mode dialect remembered line old answer new =
    (IsMemoryErr answer × (new ≡ old))
    ⊎ ((outcome : Outcome) × Says dialect line outcome
    × Leaves (run mode (values_of old) (recalled_of remembered) (outcome_entries outcome)) new
    answer)

-- the iterator at whose last line a load stopped by this error: it tells the lines of the error,
-- and has failed where memory was refused
abbrev pub stopped : {A : Type 0} → Error A → IterState → IterState
stopped e t = record t {
  lines = lines_after e t.lines;
  item_lines = last_lines (lines_after e t.lines);
}

-- the same after an error, and the iterator as it is after none
abbrev pub stopped_if : {A : Type 0} → Result (Unit {0}) (Error A) → IterState → IterState
stopped_if (Ok _) t = t
stopped_if (Err e) t = stopped e t

-- a load of an open iterator leaves and answers this, and stops at t with the lines of its error
pub record LoadIs {A : Type 0} (mode : Mode) (s : IterState) (old new : Texts)
    (answer : Result (Unit {0}) (Error A)) (t : IterState) : Type 0 where
  pub told : IsOpen s → LoadsRest (run mode) s old answer new
  pub stops : IsOpen s → Stops (run mode) s old answer (stopped_if answer t)
