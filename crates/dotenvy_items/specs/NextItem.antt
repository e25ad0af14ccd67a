-- What the next item is, and what it leaves.
use Rattle.std.specs.Prelude.{ℕ, ◌≡◌, ◌⊎◌, ◌+◌, List, [], ◌∷◌, ◌++◌, Option, Some, None, Result, Ok}
use Rattle.std.specs.Prelude.{Err, IfSome, IfOk, IsTrue, drop, string_bytes}
use Rattle.std.specs.Str.{chars}
use Rattle.std.specs.IoError.{error_kind}
use Rattle.std.specs.declared.string.String.{String}
use Rattle.dotenvy_base.specs.declared.errors.Error.{Error}
use Rattle.dotenvy_lines.specs.declared.lines.Stage.TheVariants.{Ended}
use Rattle.dotenvy_base.specs.Errors.{IsMemory, IsNulOf, IsIoOf, IsLineParseOf}
use Rattle.dotenvy_format.specs.PhysicalLines.{physical_lines}
use Rattle.dotenvy_format.specs.LogicalLine.{Logical}
use Rattle.dotenvy_format.specs.Entries.{Failure, LineParse, Io, Nul, Memory, Entry, Declares}
use Rattle.dotenvy_format.specs.Entries.{Fails, AreFirstLines, Gives, GiveAll}
use Rattle.dotenvy_format.specs.declared.dialect.Dialect.{Dialect}
use Rattle.dotenvy_format.specs.Keys.{is_key}
use Rattle.dotenvy_format.specs.Decided.{HasDecided}
use Rattle.dotenvy_format.specs.Items.{LookUp, text_of, meaning, with_value}
use Rattle.dotenvy_base.specs.Environment.{Texts, name_ok}
use Rattle.dotenvy_items.specs.Meaning.{recalled_of, names_of}
use Rattle.dotenvy_base.specs.Source.{Ahead}
use Rattle.dotenvy_lines.specs.Input.{Moves}
use Rattle.dotenvy_lines.specs.Lines.{whole_lines, IsAtEnd, GoesOn, FailsFor, Counts, no_line}
use Rattle.dotenvy_lines.specs.Reading.{HasEntriesLeft}
use Rattle.dotenvy_items.specs.Iter.{IterState, IsOpen, TellsLeft}

-- the error says this failure
abbrev pub IsFailure : {A : Type 0} → Failure → Error A → Type 0
IsFailure (LineParse text index) e = IsLineParseOf text index e
IsFailure (Io kind) e = IsIoOf (λ fault. error_kind fault ≡ kind) e
IsFailure (Nul key) e = IsNulOf key e
IsFailure Memory e = IsMemory e

-- what a call of `next_item` gives, if not `None`: a pair or an error
abbrev pub Item : Type 0 → Type 0
Item A = Result (String A × String A) (Error A)

-- an item that is given says this pair, by its characters, or this failure
abbrev pub SaysItem : {A : Type 0} → Item A → Result (List ℕ × List ℕ) Failure → Type 0
SaysItem (Ok pair) (Ok (key, value)) =
    (chars (string_bytes pair.0) ≡ key) × (chars (string_bytes pair.1) ≡ value)
SaysItem (Ok pair) (Err failure) = ⊥
SaysItem (Err e) (Ok pair) = ⊥
SaysItem (Err e) (Err failure) = IsFailure failure e

-- what an entry says, where names stand for these texts: its key and value, or its error
abbrev pub entry_item : LookUp → Entry → Result (List ℕ × List ℕ) Failure
entry_item look_up (Declares key pieces) = Ok (key, meaning look_up pieces)
entry_item look_up (Fails failure) = Err failure

-- after a declaration its key stands for its value, and each other name for what it did; after a
-- failure each name stands for what it did
abbrev pub RemembersEntry : LookUp → LookUp → LookUp → Entry → Type 0
RemembersEntry look_up old new (Declares key pieces) =
    (name : List ℕ) → text_of new name ≡ text_of (with_value old key (meaning look_up pieces)) name
RemembersEntry look_up old new (Fails failure) =
    (name : List ℕ) → text_of new name ≡ text_of old name

-- whatever follows the bytes, these are the first entries that are decided
abbrev pub DecideFirst : Dialect → List ℕ → List Entry → Type 0
DecideFirst dialect bytes entries =
    (more : List ℕ) (decided : List Entry) → HasDecided dialect more decided →
    HasDecided dialect (bytes ++ more) (entries ++ decided)

-- of what is told exactly these logical lines were used, and this is left
pub record UsesLines (a : Ahead) (lines : List Logical) (left : List ℕ) : Type 0 where
  pub count : ℕ
  pub are_first : AreFirstLines (whole_lines a) count lines
  pub rest : physical_lines left ≡ drop count (physical_lines a.bytes)

-- lines that give these entries were used, then the one that gives this entry, and nothing after it
pub record UsesUpTo (dialect : Dialect) (a : Ahead) (done : List Entry) (entry : Entry)
    (left : List ℕ) : Type 0 where
  pub lines : List Logical
  pub before : ℕ
  pub are_before : AreFirstLines (whole_lines a) before lines
  pub give : GiveAll dialect lines done
  pub last : Logical
  pub gives : Gives dialect last (entry ∷ [])
  pub uses : UsesLines a (lines ++ last ∷ []) left

-- after so many physical lines before it, an entry takes the lines up to the last one used,
-- as they are counted from s to t
abbrev pub StandsOn : IterState → ℕ → ℕ → IterState → Type 0
StandsOn s before used t =
    Counts s.lines.lines_taken (before + 1) t.item_lines.0
    × Counts s.lines.lines_taken used t.item_lines.1
    × Counts s.lines.lines_taken used t.lines.lines_taken

-- the entry was taken, the first of these, which are all that s has left: the bytes up to the end of
-- its line were used, which decide it whatever follows, unless the end of input was read; and t has
-- the later entries left, goes on in the same dialect, and remembers what the entry declares
pub record TakesEntry (names : Texts) (a : Ahead) (s : IterState) (entries : List Entry)
    (entry : Entry) (t : IterState) : Type 0 where
  pub used : List ℕ
  pub left : List ℕ
  pub moves : Moves a s.lines.input used left t.lines.input
  pub uses : UsesUpTo s.dialect a [] entry left
  pub stays : IsAtEnd a.fault left t.lines.input ⊎ DecideFirst s.dialect used (entry ∷ [])
  pub later : List Entry
  pub first : entries ≡ entry ∷ later
  pub has_left : HasEntriesLeft s.dialect a.fault left later
  pub stands : StandsOn s uses.before uses.uses.count t
  pub goes_on : GoesOn t.lines
  pub dialect : t.dialect ≡ s.dialect
  pub remembers :
      RemembersEntry (names_of names s.remembered) (recalled_of s.remembered)
      (recalled_of t.remembered) entry

-- the next item says the first of the entries left; it is none where there is none and no fault; or
-- it is a fault of reading, on no line, before which no entry is decided
abbrev pub ItemIs : {A : Type 0} → Texts → Ahead → IterState → List Entry →
    Option (Item A) → IterState → Type 0
ItemIs names a s entries None t =
    (entries ≡ []) × (a.fault ≡ None) × (t.lines.stage ≡ Ended) × (t.item_lines ≡ s.item_lines)
ItemIs names a s entries (Some item) t =
    ((entry : Entry) × SaysItem item (entry_item (names_of names s.remembered) entry)
    × TakesEntry names a s entries entry t)
    ⊎ (FailsFor a s.lines.input item (λ bytes. HasDecided s.dialect bytes []) t.lines
    × (t.item_lines ≡ no_line))

-- what a call of `next_item` gives and leaves; an iterator that has ended or failed gives none, and
-- stays as it is
abbrev pub NextItem : {A : Type 0} → Texts → IterState → Option (Item A) → IterState → Type 0
NextItem names s item t =
    (IsOpen s → (a : Ahead) → TellsLeft s a → (entries : List Entry) →
    HasEntriesLeft s.dialect a.fault a.bytes entries → ItemIs names a s entries item t)
    × (¬ (IsOpen s) → (item ≡ None) × (t ≡ s))

-- a pair that is given has a key
abbrev pub GivesKey : {A : Type 0} → Option (Item A) → Type 0
GivesKey item =
    IfSome item (λ given. IfOk given (λ pair. IsTrue (is_key (chars (string_bytes pair.0)))))

-- a pair that is given has a name that an environment can hold
abbrev pub GivesName : {A : Type 0} → Option (Item A) → Type 0
GivesName item = IfSome item (λ given. IfOk given (λ pair. IsTrue (name_ok (string_bytes pair.0))))

-- an item without the line that is given with it
abbrev pub unnumbered : {A : Type 0} → Option (ℕ × Item A) → Option (Item A)
unnumbered None = None
unnumbered (Some (line, item)) = Some item

-- the line that is given with an item is the first one that it is on
abbrev pub IsNumbered : {A : Type 0} → Option (ℕ × Item A) → IterState → Type 0
IsNumbered item t = IfSome item (λ given. given.0 ≡ t.item_lines.0)
