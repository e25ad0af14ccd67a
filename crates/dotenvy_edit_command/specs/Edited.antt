-- What an edit of a file comes to.
use Rattle.std.specs.Prelude.{ℕ, ◌≡◌, ◌++◌, ◌⊎◌, ◌||◌, List, [], ◌∷◌, Option, Some, None, Bool, true, false, Result}
use Rattle.std.specs.Prelude.{Ok, Err, if◌then◌else◌, string_bytes}
use Rattle.std.specs.Str.{bytes_eq, chars}
use Rattle.std.specs.declared.vec.Vec.{Vec}
use Rattle.clap.specs.Words.{Text}
use Rattle.dotenvy_editor.specs.Edits.{Renames, Sets, Unsets}
use Rattle.dotenvy_editor.specs.Refusals.{IsRefused, RefusesRename, RefusesSet, RefusesUnset}
use Rattle.dotenvy_editor.specs.Warnings.{TellsRename, TellsSet, TellsUnset}
use Rattle.dotenvy_editor.specs.declared.refusal.Reason.{Reason}
use Rattle.dotenvy_editor.specs.declared.refusal.Reason.TheVariants as reason
use Rattle.dotenvy_editor.specs.declared.refusal.Unedited.{Unedited}
use Rattle.dotenvy_editor.specs.declared.refusal.Unedited.TheVariants as unedited
use Rattle.dotenvy_editor.specs.declared.warning.Warning.{Warning}
use Rattle.dotenvy_editor.specs.declared.writing.How.{How as Writing}
use Rattle.dotenvy_format.specs.Keys.{is_key}
use Rattle.dotenvy_reports.specs.OneLine.{on_one_line}
use Rattle.dotenvy_edit_command.specs.declared.edits.Edit.{Edit}
use Rattle.dotenvy_edit_command.specs.declared.failure.Failure.{Failure}
use Rattle.dotenvy_edit_command.specs.declared.failure.Failure.TheVariants as failure
use Rattle.dotenvy_edit_command.specs.declared.failure.Place.{Place}
use Rattle.dotenvy_edit_command.specs.declared.words.How.{How}
use Rattle.dotenvy_edit_command.specs.Failures.{IsMemoryEnd}
use Rattle.dotenvy_edit_command.specs.Warnings.{warning_lines}

-- the bytes of a file, of which one that is absent has none
abbrev pub bytes_of : {A : Type 0} → Option (Vec ℕ A) → List ℕ
bytes_of (Some bytes) = bytes.items
bytes_of None = []

-- the same, or none if it is absent
abbrev pub items_of : {A : Type 0} → Option (Vec ℕ A) → Option (List ℕ)
items_of (Some bytes) = Some bytes.items
items_of None = None

-- what is said of an edit of a name in a file, unless no warnings are to be said
abbrev pub said_of : {A : Type 0} → Bool → Text → Text → List (Warning A) → Text
said_of true file name warnings = []
said_of false file name warnings = warning_lines file (on_one_line (chars name)) warnings

-- how a value is written for these options
abbrev pub writing_of : How → Writing
writing_of how = record { dialect = how.dialect; is_portable = how.is_portable }

-- this name in this file, which is printed so
abbrev pub IsPlace : {A : Type 0} → Text → Text → Place A → Type 0
IsPlace file name place =
    (string_bytes place.file ≡ file) × (string_bytes place.name ≡ on_one_line (chars name))

-- the failure is an edit that is refused so, at this place, or a failed allocation
abbrev pub IsRefusalOf : {A : Type 0} → Text → (Unedited → Text) → (Unedited → Type 0) → Failure A →
    Type 0
IsRefusalOf file name_for Refuses (failure.Refused place refusal) =
    IsPlace file (name_for (unedited.Refused refusal)) place
    × Refuses (unedited.Refused refusal)
IsRefusalOf file name_for Refuses (failure.Memory refused) = Unit {0}
IsRefusalOf file name_for Refuses other = ⊥

-- an edit of a name makes bytes of which the one fact holds; the warnings of which the other one holds
-- are said, each on a line, in their order, unless none are to be said
abbrev pub IsEdit : {A : Type 0} → How → Text → Text → (List ℕ → Type 0) →
    (List (Warning A) → Type 0) → Edit A → Type 0
IsEdit {A = A} how file name Makes Tells edit =
    Makes edit.bytes.items
    × ((warnings : List (Warning A)) × Tells warnings
    × (string_bytes edit.said ≡ said_of how.is_quiet file name warnings))

-- the name is removed from these bytes, and what is told of that is said
abbrev pub IsUnset : {A : Type 0} → How → Text → List ℕ → Text → Edit A → Type 0
IsUnset how file bytes name edit =
    IsEdit how file name (Unsets how.dialect (chars name) bytes)
    (TellsUnset how.dialect (chars name) bytes) edit

-- the name is set to the value, or why that is refused
abbrev pub AnswersSet : {A : Type 0} → How → Text → List ℕ → Text → Text →
    Result (Edit A) (Failure A) → Type 0
AnswersSet how file bytes name value (Ok edit) =
    IsEdit how file name (Sets (writing_of how) (chars name) (chars value) bytes)
    (TellsSet (writing_of how) (chars name) (chars value) bytes) edit
AnswersSet how file bytes name value (Err failed) =
    IsRefusalOf file (λ _. name)
    (IsRefused (RefusesSet (writing_of how) (chars name) (chars value) bytes)) failed

-- the name is removed from these bytes, or why that is refused
abbrev pub AnswersUnset : {A : Type 0} → How → Text → List ℕ → Text →
    Result (Edit A) (Failure A) → Type 0
AnswersUnset how file bytes name (Ok edit) = IsUnset how file bytes name edit
AnswersUnset how file bytes name (Err failed) =
    IsRefusalOf file (λ _. name) (IsRefused (RefusesUnset how.dialect (chars name) bytes)) failed

-- of the two names of a rename, the one for which it is refused
abbrev pub name_for_reason : Text → Text → Reason → Text
name_for_reason old new reason.Present = new
name_for_reason old new reason.Key = if is_key (chars old) then new else old
name_for_reason old new other = old

-- the same of two names that weren't renamed, for whatever reason; it is the old one if an allocation failed
abbrev pub name_for : Text → Text → Unedited → Text
name_for old new (unedited.Refused refusal) = name_for_reason old new refusal.reason
name_for old new (unedited.Memory refused) = old

-- the name is renamed, or why that is refused, and for which of the two names
abbrev pub AnswersRename : {A : Type 0} → How → Text → List ℕ → Text → Text →
    Result (Edit A) (Failure A) → Type 0
AnswersRename how file bytes old new (Ok edit) =
    IsEdit how file old (Renames (chars old) (chars new) bytes)
    (TellsRename how.dialect (chars old) bytes) edit
AnswersRename how file bytes old new (Err failed) =
    IsRefusalOf file (name_for old new)
    (IsRefused (RefusesRename (chars old) (chars new) bytes)) failed

-- a text is one of these
abbrev pub is_among : List Text → Text → Bool
is_among [] text = false
is_among (other ∷ others) text = bytes_eq other text || is_among others text

-- each name once, without those that came before
abbrev pub each_once : List Text → List Text → List Text
each_once earlier [] = []
each_once earlier (name ∷ names) =
    if is_among earlier name then each_once (earlier ++ name ∷ []) names
    else name ∷ each_once (earlier ++ name ∷ []) names

-- the names are removed, one after another, from the bytes that the others left; what is said of each is said of the
-- whole file
abbrev pub UnsetsEach : (A : Type 0) → How → Text → List ℕ → List Text → List ℕ → List ℕ → Text →
    Type 0
UnsetsEach A how file bytes [] left new said = (new ≡ left) × (said ≡ [])
UnsetsEach A how file bytes (name ∷ names) left new said =
    (told : Edit A) × IsUnset how file bytes name told
    × ((next : List ℕ) × Unsets how.dialect (chars name) left next
    × ((later : Text) × UnsetsEach A how file bytes names next new later
    × (said ≡ string_bytes told.said ++ later)))

-- the removal of one of these names from the whole file is refused, and that of each name before it isn't
abbrev pub RefusesEach : {A : Type 0} → How → Text → List ℕ → List Text → Failure A → Type 0
RefusesEach how file bytes [] failed = ⊥
RefusesEach {A = A} how file bytes (name ∷ names) failed =
    AnswersUnset how file bytes name (Err failed)
    ⊎ ((told : Edit A) × IsUnset how file bytes name told
    × RefusesEach how file bytes names failed)

-- each of the names is removed once, or why one of them isn't
abbrev pub AnswersUnsets : {A : Type 0} → How → Text → List ℕ → List Text →
    Result (Edit A) (Failure A) → Type 0
AnswersUnsets {A = A} how file bytes names (Ok edit) =
    UnsetsEach A how file bytes (each_once [] names) bytes edit.bytes.items (string_bytes edit.said)
AnswersUnsets how file bytes names (Err failed) =
    IsMemoryEnd failed ⊎ RefusesEach how file bytes (each_once [] names) failed
