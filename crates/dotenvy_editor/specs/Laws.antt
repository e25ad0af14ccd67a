-- Laws of edits: what they do to the lines and the entries of a file.
use Rattle.std.specs.Prelude.{ℕ, ◌≡◌, ◌≢◌, ◌⊎◌, ◌↔◌, List, [], ◌∷◌, ◌++◌, drop, map, take}
use Rattle.std.specs.Prelude.{IsTrue}
use Rattle.dotenvy.specs.Dialect.{Dialect}
use Rattle.dotenvy.specs.Characters.{line_feed}
use Rattle.dotenvy.specs.Entries.{Entry, Declares, Fails, AreLogicalLines, Gives, HasEntries}
use Rattle.dotenvy.specs.Keys.{is_key}
use Rattle.dotenvy.specs.LogicalLine.{Logical, IsOpenEnd}
use Rattle.dotenvy.specs.Marks.{without_mark}
use Rattle.dotenvy.specs.PhysicalLines.{line_texts}
use Rattle.dotenvy.specs.Value.{Piece}
use Rattle.dotenvy_editor.specs.declared.writing.How.{How}
use Rattle.dotenvy_editor.specs.Assignments.{AssignsKey}
use Rattle.dotenvy_editor.specs.Edits.{Renames, Sets, Unsets, has_mark}
use Rattle.dotenvy_editor.specs.Ends.{ends_in}
use Rattle.dotenvy_editor.specs.Lines.{MeansText}
use Rattle.dotenvy_editor.specs.Slices.{Slice, AreSlices, IsNextSlice}
use Rattle.dotenvy_editor.specs.Whole.{IsWholeLen}

-- a line with its line feed, if it isn't open, is the same logical line alone and before any later bytes
abbrev pub StandsAlone : Type 0
StandsAlone =
    (bytes later : List ℕ) (logical : Logical) → IsTrue (ends_in line_feed bytes) →
    ¬ (IsOpenEnd logical) → IsNextSlice bytes logical [] ↔ IsNextSlice bytes logical later

-- bytes are cut into slices in one way alone
abbrev pub HasOneCut : Type 0
HasOneCut =
    (bytes : List ℕ) → (slices : List Slice) × AreSlices bytes slices
    × ((others : List Slice) → AreSlices bytes others → others ≡ slices)

-- the entries of whole lines that are counted stay, whatever follows: they come first, and those of what is after these
-- lines later
abbrev pub WholeStays : Type 0
WholeStays =
    (dialect : Dialect) (bytes more : List ℕ) (count : ℕ) (front after : List Entry) →
    IsWholeLen bytes count → HasEntries dialect (take count bytes) front →
    HasEntries dialect (drop count bytes ++ more) after →
    HasEntries dialect (bytes ++ more) (front ++ after)

-- an entry of a file, marked: of a line that assigns the key, or of another line
pub data Marked : Type 0 where
  Assigned : Entry → Marked
  Other : Entry → Marked

-- one logical line gives these entries, marked
abbrev pub GivesMarked : Dialect → List ℕ → Logical → List Marked → Type 0
GivesMarked dialect key logical marked =
    (entries : List Entry) × Gives dialect logical entries
    × ((AssignsKey key logical × (marked ≡ map Assigned entries))
    ⊎ (¬ (AssignsKey key logical) × (marked ≡ map Other entries)))

-- these logical lines give these marked entries, in order
abbrev pub GiveAllMarked : Dialect → List ℕ → List Logical → List Marked → Type 0
GiveAllMarked dialect key [] marked = marked ≡ []
GiveAllMarked dialect key (first ∷ others) marked =
    (front after : List Marked) × GivesMarked dialect key first front
    × GiveAllMarked dialect key others after × (marked ≡ front ++ after)

-- the bytes have these entries, marked for the key
pub record HasMarked (dialect : Dialect) (key bytes : List ℕ) (marked : List Marked) : Type 0 where
  pub lines : List Logical
  pub are_lines : AreLogicalLines (line_texts bytes) lines
  pub give : GiveAllMarked dialect key lines marked

-- the entries of lines that don't assign the key
abbrev pub unassigned : List Marked → List Marked
unassigned [] = []
unassigned (Assigned entry ∷ marked) = unassigned marked
unassigned (Other entry ∷ marked) = Other entry ∷ unassigned marked

-- these entries with this one in the place of the first assignment and no other assignment; where there is none, it
-- comes last
abbrev pub with_assigned : Entry → List Marked → List Marked
with_assigned new [] = Assigned new ∷ []
with_assigned new (Assigned entry ∷ marked) = Assigned new ∷ unassigned marked
with_assigned new (Other entry ∷ marked) = Other entry ∷ with_assigned new marked

-- a set gives the key one entry, which means the value: in the place of the first assignment, or at the end
abbrev pub SetsOneEntry : Type 0
SetsOneEntry =
    (how : How) (key value old new : List ℕ) (marked : List Marked) → Sets how key value old new →
    HasMarked how.dialect key (without_mark old) marked →
    (pieces : List Piece) × MeansText pieces value
    × HasMarked how.dialect key (without_mark new) (with_assigned (Declares key pieces) marked)

-- an unset leaves the entries of the lines that don't assign the key
abbrev pub UnsetsAll : Type 0
UnsetsAll =
    (dialect : Dialect) (key old new : List ℕ) (marked : List Marked) →
    Unsets dialect key old new → HasMarked dialect key (without_mark old) marked →
    HasMarked dialect key (without_mark new) (unassigned marked)

-- the entry of the key, as one of the new key
abbrev pub renamed : List ℕ → Marked → Marked
renamed new (Assigned (Declares key pieces)) = Assigned (Declares new pieces)
renamed new (Assigned (Fails failure)) = Assigned (Fails failure)
renamed new (Other entry) = Other entry

-- a rename to a key leaves all entries, with the new key in each declaration of the old one
abbrev pub RenamesEach : Type 0
RenamesEach =
    (dialect : Dialect) (key other old new : List ℕ) (marked : List Marked) →
    IsTrue (is_key other) → Renames key other old new →
    HasMarked dialect key (without_mark old) marked →
    HasMarked dialect other (without_mark new) (map (renamed other) marked)

-- an edit keeps a byte order mark at the start of the file, and makes none
abbrev pub KeepsMark : Type 0
KeepsMark =
    ((how : How) (key value old new : List ℕ) → Sets how key value old new →
    has_mark new ≡ has_mark old)
    × ((dialect : Dialect) (key old new : List ℕ) → Unsets dialect key old new →
    has_mark new ≡ has_mark old)
    × ((key other old new : List ℕ) → IsTrue (is_key other) → Renames key other old new →
    has_mark new ≡ has_mark old)

-- the entry without its mark
abbrev pub entry_of : Marked → Entry
entry_of (Assigned entry) = entry
entry_of (Other entry) = entry

-- a declaration is marked by its key
abbrev pub IsMarked : List ℕ → Marked → Type 0
IsMarked key (Assigned (Declares name pieces)) = name ≡ key
IsMarked key (Other (Declares name pieces)) = name ≢ key
IsMarked key (Assigned (Fails failure)) = Unit {0}
IsMarked key (Other (Fails failure)) = Unit {0}

-- each declaration is marked by its key
abbrev pub AreMarked : List ℕ → List Marked → Type 0
AreMarked key [] = Unit {0}
AreMarked key (entry ∷ marked) = IsMarked key entry × AreMarked key marked

-- bytes have their entries in one marking alone, and in it declarations are marked by their keys
abbrev pub HasOneMarking : Type 0
HasOneMarking =
    (dialect : Dialect) (key bytes : List ℕ) →
    (marked : List Marked) × HasMarked dialect key bytes marked
    × HasEntries dialect bytes (map entry_of marked) × AreMarked key marked
    × ((others : List Marked) → HasMarked dialect key bytes others → others ≡ marked)
