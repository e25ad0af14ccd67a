-- The laws of items, loads and listings: the bytes of a source, and the fault after them, decide what comes.
use Rattle.std.specs.Prelude.{ℕ, ◌≡◌, ◌≤◌, List, ◌++◌, length, Option, Some, option_map, Result, Ok, Err}
use Rattle.std.specs.Str.{encode_utf8_all}
use Rattle.std.specs.FinMap as fin
use Rattle.std.specs.declared.io.ErrorKind.{ErrorKind}
use Rattle.dotenvy_format.specs.declared.dialect.Dialect.{Dialect}
use Rattle.dotenvy_base.specs.declared.errors.Error.{Error}
use Rattle.dotenvy_format.specs.PhysicalLines.{physical_lines}
use Rattle.dotenvy_base.specs.Errors.{IsMemoryErr}
use Rattle.dotenvy_format.specs.Entries.{Entry, Failure}
use Rattle.dotenvy_format.specs.Items.{LookUp, items_from, items, no_values, or_else}
use Rattle.dotenvy_format.specs.Run.{Loaded}
use Rattle.dotenvy_format.specs.Written.{written_bytes}
use Rattle.dotenvy_base.specs.Output.{Writes}
use Rattle.dotenvy_format.specs.Loads.{load_result, override_result}
use Rattle.dotenvy_base.specs.Environment.{Texts}
use Rattle.dotenvy_items.specs.Meaning.{values_of, recalled_of}
use Rattle.dotenvy_format.specs.Marks.{without_mark}
use Rattle.dotenvy_base.specs.Source.{Ahead, SinkTold, Told}
use Rattle.dotenvy_lines.specs.Reading.{HasEntriesLeft, told_fault}
use Rattle.dotenvy_items.specs.Iter.{IterState, IsOpen, TellsLeft, fresh, remembering}
use Rattle.dotenvy_items.specs.Listed.{Lists, pairs_of}
use Rattle.dotenvy_items.specs.LoadsRest.{IsAnswer, Rule, Leaves, LoadsRest}
use Rattle.dotenvy_items.specs.Iteration.{GivesItems, NoneRefused, IsReadable, CanRead, SayItems}
use Rattle.dotenvy_items.specs.Iteration.{AreRead, SayTheSame, AnswerTheSame}
use Rattle.dotenvy_items.specs.NextItem.{Item}

-- a fresh iterator gives the items of its source's bytes, all and in order, and last the fault that
-- is told, if one is
abbrev pub ItemsInOrder : Type 0 → Type 0
ItemsInOrder A =
    (dialect : Dialect) (told : Told) (a : Ahead) (names : Texts) (entries : List Entry)
    (given : List (Item A)) →
    told.ahead ≡ Some a → IsReadable a → HasEntriesLeft dialect a.fault a.bytes entries →
    GivesItems names (fresh told dialect) given → NoneRefused given →
    SayItems given (items (values_of names) (entries ++ told_fault a.fault))

-- a used iterator gives the items of what is left; there a name may also mean a remembered value
abbrev pub ItemsGoOn : Type 0 → Type 0
ItemsGoOn A =
    (s : IterState) (a : Ahead) (names : Texts) (entries : List Entry) (given : List (Item A)) →
    CanRead s a → HasEntriesLeft s.dialect a.fault a.bytes entries →
    GivesItems names s given → NoneRefused given →
    SayItems given
    (items_from (values_of names) (recalled_of s.remembered) (entries ++ told_fault a.fault))

-- an open iterator, up to a final fault or its end, gives the items of what it reads, all and in order
abbrev pub ItemsAsRead : Type 0 → Type 0
ItemsAsRead A =
    (s : IterState) (a : Ahead) (names : Texts) (entries : List Entry) (given : List (Item A)) →
    IsOpen s → TellsLeft s a → HasEntriesLeft s.dialect a.fault a.bytes entries →
    GivesItems names s given →
    (read : List Entry) × AreRead s a entries read
    × SayItems given (items_from (values_of names) (recalled_of s.remembered) read)

-- two fresh iterators over the same bytes, with the same fault after them, give the same items
abbrev pub GiveTheSame : Type 0 → Type 0
GiveTheSame A =
    (dialect : Dialect) (told other : Told) (a : Ahead) (names : Texts)
    (given others : List (Item A)) →
    told.ahead ≡ Some a → other.ahead ≡ Some a → IsReadable a →
    GivesItems names (fresh told dialect) given → NoneRefused given →
    GivesItems names (fresh other dialect) others → NoneRefused others →
    SayTheSame given others

-- a load by this rule, with a fresh iterator over what a source tells, that was not refused memory
pub record LoadsFresh {A : Type 0} (rule : Rule) (dialect : Dialect) (a : Ahead) (old : Texts)
    (answer : Result (Unit {0}) (Error A)) (new : Texts) : Type 0 where
  pub told : Told
  pub is_told : told.ahead ≡ Some a
  pub loads : LoadsRest rule (fresh told dialect) old answer new
  pub not_refused : ¬ (IsMemoryErr answer)

-- in both environments each name has the same value
abbrev pub HaveSameValues : Texts → Texts → Type 0
HaveSameValues names others = (name : List ℕ) → values_of others name ≡ values_of names name

-- two loads of the same bytes into the same environment leave the same values and return the same
abbrev pub LoadTheSame : Rule → Type 0 → Type 0
LoadTheSame rule A =
    (dialect : Dialect) (a : Ahead) (old new other : Texts)
    (answer another : Result (Unit {0}) (Error A)) →
    IsReadable a →
    LoadsFresh rule dialect a old answer new → LoadsFresh rule dialect a old another other →
    HaveSameValues new other × AnswerTheSame answer another

-- the bytes, and the fault after them, decide items and loads, however reads cut the bytes
abbrev pub CutsDoNotMatter : Type 0 → Type 0
CutsDoNotMatter A = GiveTheSame A × LoadTheSame load_result A × LoadTheSame override_result A

-- a load that was not refused memory loads all entries left, and then the fault that is told
abbrev pub LoadsAllLeft : Rule → Type 0 → Type 0
LoadsAllLeft rule A =
    (s : IterState) (a : Ahead) (old new : Texts) (answer : Result (Unit {0}) (Error A))
    (entries : List Entry) →
    CanRead s a → HasEntriesLeft s.dialect a.fault (without_mark a.bytes) entries →
    LoadsRest rule s old answer new → ¬ (IsMemoryErr answer) →
    Leaves (rule (values_of old) (recalled_of s.remembered) (entries ++ told_fault a.fault)) new
    answer

-- `load` and `load_override`, where not refused memory, load all entries left
abbrev pub LoadsTakeAll : Type 0 → Type 0
LoadsTakeAll A = LoadsAllLeft load_result A × LoadsAllLeft override_result A

-- a second `load` of the same bytes changes no value, and returns what the first did
abbrev pub LoadsAgain : Type 0 → Type 0
LoadsAgain A =
    (dialect : Dialect) (a : Ahead) (old new newer : Texts)
    (answer another : Result (Unit {0}) (Error A)) →
    IsReadable a →
    LoadsFresh load_result dialect a old answer new →
    LoadsFresh load_result dialect a new another newer →
    HaveSameValues new newer × AnswerTheSame answer another

-- the map has the values of this look-up, by their bytes, and no others
abbrev pub HoldsLoaded : Texts → LookUp → Type 0
HoldsLoaded names look_up = (name : List ℕ) →
    fin.get names name ≡ option_map encode_utf8_all (look_up name)

-- a listing of what a load leaves: the load's error is returned, and the sink is as it was; or the
-- pairs are sent in their written form
abbrev pub ListsValues : {A W : Type 0} → (W → SinkTold) → W → W → LookUp →
    Result (Unit {0}) Failure → Result (Unit {0}) (Error A) → Type 0
ListsValues sink old new look_up (Err failure) answer =
    IsAnswer (Err failure) answer × (new ≡ old)
ListsValues sink old new look_up (Ok done) answer =
    (names : Texts) × HoldsLoaded names look_up
    × Writes sink old new (written_bytes (pairs_of names)) answer

-- a listing of the values that this load leaves, or of its error
abbrev pub ListsLoaded : {A W : Type 0} → (W → SinkTold) → W → W → Loaded →
    Result (Unit {0}) (Error A) → Type 0
ListsLoaded sink old new loaded answer =
    ListsValues sink old new loaded.env loaded.answer answer

-- a listing that was not refused memory writes what `load` leaves in an empty environment
abbrev pub ListsByRule : Type 0 → Type 0 → Type 0
ListsByRule A W =
    (dialect : Dialect) (told : Told) (a : Ahead) (sink : W → SinkTold) (old new : W)
    (answer : Result (Unit {0}) (Error A)) (entries : List Entry) →
    told.ahead ≡ Some a → IsReadable a →
    HasEntriesLeft dialect a.fault (without_mark a.bytes) entries →
    Lists (fresh told dialect) sink old new answer →
    ¬ (IsMemoryErr answer) →
    ListsLoaded sink old new
    (load_result no_values no_values (entries ++ told_fault a.fault)) answer

-- there are no more entries than physical lines, and each entry is one item
abbrev pub OneEntryALine : Type 0
OneEntryALine =
    ((dialect : Dialect) (fault : Option ErrorKind) (bytes : List ℕ) (entries : List Entry) →
    HasEntriesLeft dialect fault bytes entries → length entries ≤ length (physical_lines bytes))
    × ((env remembered : LookUp) (entries : List Entry) →
    length (items_from env remembered entries) ≡ length entries)

-- with these names remembered, a name recalls its value among them, or else what it did
abbrev pub RecallsNames : Type 0
RecallsNames =
    (names : Texts) (s : IterState) (name : List ℕ) →
    recalled_of ((remembering names s).remembered) name
    ≡ or_else (values_of names) (recalled_of s.remembered) name
