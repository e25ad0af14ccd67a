-- The value that a load of a file gives a name.
use Rattle.std.specs.Prelude.{ℕ, ◌≡◌, ◌+◌, ◌<◌, ◌^◌, false, List, [], ◌∷◌, ◌++◌, Some, None, Result, Ok, Err}
use Rattle.std.specs.Prelude.{is_ok, length, string_bytes}
use Rattle.std.specs.Str.{chars}
use Rattle.std.specs.declared.string.String.{String}
use Rattle.clap.specs.Words.{Text}
use Rattle.dotenvy_base.specs.Errors.{IsMemory}
use Rattle.dotenvy_base.specs.declared.errors.Error.{Error}
use Rattle.dotenvy_editor.specs.declared.refusal.Reason.TheVariants.{Absent}
use Rattle.dotenvy_editor.specs.declared.refusal.Refusal.{Refusal}
use Rattle.dotenvy_format.specs.declared.dialect.Dialect.{Dialect}
use Rattle.dotenvy_format.specs.Entries.{Entry, HasEntries}
use Rattle.dotenvy_format.specs.Items.{no_values}
use Rattle.dotenvy_format.specs.Loads.{load_result}
use Rattle.dotenvy_format.specs.Marks.{without_mark}
use Rattle.dotenvy_format.specs.Run.{Loaded}
use Rattle.dotenvy.specs.Input.{most_reads}
use Rattle.dotenvy_items.specs.NextItem.{UsesUpTo}
use Rattle.dotenvy_edit_command.specs.declared.failure.Failure.{Failure}
use Rattle.dotenvy_edit_command.specs.declared.failure.Failure.TheVariants as failure
use Rattle.dotenvy_edit_command.specs.Edited.{IsPlace}

-- a load of these entries alone, into an empty environment
abbrev pub load_of : List Entry → Loaded
load_of entries = load_result no_values no_values entries

-- this holds of what a load of the file leaves, at its end or where it stops
pub record LoadLeaves (dialect : Dialect) (file : List ℕ) (P : Loaded → Type 0) : Type 0 where
  pub entries : List Entry
  pub has_entries : HasEntries dialect (without_mark file) entries
  pub leaves : P (load_of entries)

-- a load gives the name this value
abbrev pub GivesValue : Dialect → List ℕ → List ℕ → List ℕ → Type 0
GivesValue dialect file name value =
    LoadLeaves dialect file (λ loaded. loaded.env name ≡ Some value)

-- a load gives the name no value
abbrev pub GivesNone : Dialect → List ℕ → List ℕ → Type 0
GivesNone dialect file name = LoadLeaves dialect file (λ loaded. loaded.env name ≡ None)

-- a load has no error
abbrev pub HasNoError : Dialect → List ℕ → Type 0
HasNoError dialect file = LoadLeaves dialect file (λ loaded. loaded.answer ≡ Ok tt)

-- a load has no error in its first entries, and one in the next, which begins on this line, as far as
-- 64 bits count lines
pub record StopsOn (dialect : Dialect) (file : List ℕ) (line : ℕ) : Type 0 where
  pub done : List Entry
  pub entry : Entry
  pub loads : (load_of done).answer ≡ Ok tt
  pub stops : is_ok (load_of (done ++ entry ∷ [])).answer ≡ false
  pub left : List ℕ
  pub uses : UsesUpTo dialect (record { bytes = without_mark file; fault = None }) done entry left
  pub begins : uses.before + 1 < 2 ^ 64 → line ≡ uses.before + 1

-- the refusal of a name that is not there
abbrev pub is_absent : Refusal
is_absent = record { reason = Absent; line = 0 }

-- the failure is that this file can't be read, for this error
abbrev pub IsUnreadOf : {A : Type 0} → Text → Error A → Failure A → Type 0
IsUnreadOf file error (failure.File shown told) = (string_bytes shown ≡ file) × (told ≡ error)
IsUnreadOf file error other = ⊥

-- the failure says that this name is not there, after a load without an error; or on which line the
-- load stopped; or that an allocation failed
abbrev pub IsLackAfter : {A : Type 0} → Text → Text → ℕ → Result (Unit {0}) (Error A) → Failure A →
    Type 0
IsLackAfter file name line (Ok done) (failure.Refused place refusal) =
    IsPlace file name place × (refusal ≡ is_absent)
IsLackAfter file name line (Err error) (failure.Stops place told) =
    IsPlace file name place × (told ≡ line) × ¬ (IsMemory error)
IsLackAfter file name line (Err error) (failure.Memory refused) = Unit {0}
IsLackAfter file name line loaded other = ⊥

-- the result is the value that a load gives the name, or why there is none; or an allocation failed
abbrev pub IsValueOf : {A : Type 0} → Dialect → List ℕ → Text → Text →
    Result (String A) (Failure A) → Type 0
IsValueOf dialect bytes file name (Ok value) =
    GivesValue dialect bytes (chars name) (chars (string_bytes value))
IsValueOf dialect bytes file name (Err (failure.Refused place refusal)) =
    IsPlace file name place × (refusal ≡ is_absent) × HasNoError dialect bytes
    × GivesNone dialect bytes (chars name)
IsValueOf dialect bytes file name (Err (failure.Stops place line)) =
    IsPlace file name place × StopsOn dialect bytes line × GivesNone dialect bytes (chars name)
IsValueOf dialect bytes file name (Err (failure.File shown error)) =
    (string_bytes shown ≡ file) × IsMemory error
IsValueOf dialect bytes file name (Err (failure.Memory refused)) = Unit {0}
IsValueOf dialect bytes file name (Err other) = ⊥

-- the same of a file with fewer bytes than a load can read for certain, 2^32
abbrev pub LoadsValue : {A : Type 0} → Dialect → List ℕ → Text → Text →
    Result (String A) (Failure A) → Type 0
LoadsValue dialect bytes file name result =
    length bytes < most_reads → IsValueOf dialect bytes file name result
