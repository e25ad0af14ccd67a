-- What a load leaves in the environment, and what it returns.
use Rattle.std.specs.Prelude.{ℕ, ◌≡◌, false, List, Result, Ok, Err}
use Rattle.std.specs.FinMap as fin
use Rattle.dotenvy_base.specs.declared.errors.Error.{Error}
use Rattle.dotenvy_format.specs.Keys.{is_key}
use Rattle.dotenvy_format.specs.Entries.{Failure, Entry}
use Rattle.dotenvy_format.specs.Items.{LookUp}
use Rattle.dotenvy_format.specs.Run.{Loaded}
use Rattle.dotenvy_base.specs.Environment.{Env, KeepsNames, Texts}
use Rattle.dotenvy_items.specs.Meaning.{values_of, recalled_of}
use Rattle.dotenvy_format.specs.Marks.{without_mark}
use Rattle.dotenvy_base.specs.Source.{Ahead}
use Rattle.dotenvy_lines.specs.Reading.{HasEntriesLeft, IsReading}
use Rattle.dotenvy_items.specs.NextItem.{IsFailure}
use Rattle.dotenvy_items.specs.Iter.{IterState, TellsLeft}

-- the result of a load says this answer
abbrev pub IsAnswer : {A : Type 0} → Result (Unit {0}) Failure → Result (Unit {0}) (Error A) →
    Type 0
IsAnswer (Ok done) (Ok r) = Unit {0}
IsAnswer (Ok done) (Err e) = ⊥
IsAnswer (Err failure) (Ok r) = ⊥
IsAnswer (Err failure) (Err e) = IsFailure failure e

-- the environment has the values that the load leaves, and the result is the load's
pub record Leaves {A : Type 0} (loaded : Loaded) (new : Texts)
    (answer : Result (Unit {0}) (Error A)) : Type 0 where
  pub values : (name : List ℕ) → values_of new name ≡ loaded.env name
  pub is_answer : IsAnswer loaded.answer answer

-- a rule of loads: from the environment before, what is remembered, and the entries that are read
abbrev pub Rule : Type 0
Rule = LookUp → LookUp → List Entry → Loaded

-- a load by this rule of what s has left, without the byte order mark at the start
abbrev pub LoadsRest : {A : Type 0} → Rule → IterState → Texts → Result (Unit {0}) (Error A) →
    Texts → Type 0
LoadsRest rule s old answer new =
    (a : Ahead) → TellsLeft s a → (entries : List Entry) →
    HasEntriesLeft s.dialect a.fault (without_mark a.bytes) entries →
    (read : List Entry) × IsReading s.dialect a s.lines.input entries read
    × Leaves (rule (values_of old) (recalled_of s.remembered) read) new answer

-- a name that is no key has the value that it had
abbrev pub ChangesKeys : Texts → Texts → Type 0
ChangesKeys old new = (name : List ℕ) → is_key name ≡ false → fin.get new name ≡ fin.get old name

-- only keys change, and the `loaded` flag stays
pub record ChangesOnlyKeys (old new : Env) : Type 0 where
  pub keys : ChangesKeys old.names new.names
  pub mark : new.loaded ≡ old.loaded

-- only keys are added: names that are there keep their values, and the `loaded` flag stays
pub record OnlyAdds (old new : Env) : Type 0 where
  pub keeps : KeepsNames old.names new.names
  pub changes : ChangesOnlyKeys old new
