-- What calls of `next_item` give one after another, and when items or results say the same.
use Rattle.std.specs.Prelude.{ℕ, ◌≡◌, ◌≢◌, ◌⊎◌, ◌+◌, ◌<◌, ◌≤◌, List, [], ◌∷◌, ◌++◌, length, Some}
use Rattle.std.specs.Prelude.{None, Result}
use Rattle.std.specs.declared.io.ErrorKind.TheVariants.{Interrupted, Other}
use Rattle.dotenvy_format.specs.declared.dialect.Dialect.{Dialect}
use Rattle.dotenvy_base.specs.declared.errors.Error.{Error}
use Rattle.dotenvy_base.specs.Errors.{IsMemoryErr}
use Rattle.dotenvy_format.specs.Entries.{Failure, Entry, Fails, Io}
use Rattle.dotenvy_format.specs.Decided.{HasDecided}
use Rattle.dotenvy_base.specs.Environment.{Texts}
use Rattle.dotenvy_base.specs.Source.{Ahead}
use Rattle.dotenvy_lines.specs.Input.{end_reads, most_reads}
use Rattle.dotenvy_lines.specs.Reading.{StopsAtMemory, certain_bytes, told_fault}
use Rattle.dotenvy_items.specs.Iter.{IterState, IsOpen, TellsLeft}
use Rattle.dotenvy_items.specs.NextItem.{Item, SaysItem, NextItem}
use Rattle.dotenvy_items.specs.LoadsRest.{IsAnswer}

-- calls from s on, under this environment, give these items one after another, and then `None`
abbrev pub GivesItems : {A : Type 0} → Texts → IterState → List (Item A) → Type 0
GivesItems {A = A} names s [] = (t : IterState) × NextItem {A = A} names s None t
GivesItems names s (item ∷ items) =
    (t : IterState) × NextItem names s (Some item) t × GivesItems names t items

-- no call was refused memory
abbrev pub NoneRefused : {A : Type 0} → List (Item A) → Type 0
NoneRefused [] = Unit {0}
NoneRefused (item ∷ items) = ¬ (IsMemoryErr item) × NoneRefused items

-- a source tells fewer than 2^32 bytes, and no interrupted read
pub record IsReadable (a : Ahead) : Type 0 where
  pub few : length a.bytes < most_reads
  pub not_interrupted : a.fault ≢ Some Interrupted

-- an open iterator has this left: no interrupted read, and fewer bytes than the reads that may
-- still be made and the bytes that were read already
pub record CanRead (s : IterState) (a : Ahead) : Type 0 where
  pub is_open : IsOpen s
  pub is_told : TellsLeft s a
  pub few :
      length a.bytes < s.lines.input.reads + s.lines.input.unread + end_reads s.lines.input.at_end

-- a reading of a, of which so many bytes can be read for certain, stops at the bound on reads: after
-- the entries that the bytes read so far decide, where each read gave a byte at least
pub record EndsAtBound (dialect : Dialect) (a : Ahead) (certain : ℕ) (read : List Entry) : Type 0 where
  pub bytes : List ℕ
  pub later : List ℕ
  pub cut : a.bytes ≡ bytes ++ later
  pub each_gave : certain ≤ length bytes
  pub decided : List Entry
  pub has_decided : HasDecided dialect bytes decided
  pub ends : read ≡ decided ++ Fails (Io Other) ∷ []

-- which entries an iterator reads where a is told and these are left: all of them and the fault that
-- is told; or it stops before, at refused memory or at the bound on reads
abbrev pub AreRead : IterState → Ahead → List Entry → List Entry → Type 0
AreRead s a entries read =
    (read ≡ entries ++ told_fault a.fault)
    ⊎ (StopsAtMemory entries read ⊎ EndsAtBound s.dialect a (certain_bytes s.lines.input) read)

-- what was given says these items: all, and in order
abbrev pub SayItems : {A : Type 0} → List (Item A) → List (Result (List ℕ × List ℕ) Failure) →
    Type 0
SayItems [] [] = Unit {0}
SayItems [] (item ∷ items) = ⊥
SayItems (given ∷ others) [] = ⊥
SayItems (given ∷ others) (item ∷ items) = SaysItem given item × SayItems others items

-- two lists of items say the same items
abbrev pub SayTheSame : {A : Type 0} → List (Item A) → List (Item A) → Type 0
SayTheSame given others =
    (items : List (Result (List ℕ × List ℕ) Failure)) × SayItems given items × SayItems others items

-- the results of two loads say the same
abbrev pub AnswerTheSame : {A : Type 0} → Result (Unit {0}) (Error A) →
    Result (Unit {0}) (Error A) → Type 0
AnswerTheSame answer other =
    (said : Result (Unit {0}) Failure) × IsAnswer said answer × IsAnswer said other
