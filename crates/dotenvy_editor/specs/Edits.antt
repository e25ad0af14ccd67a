-- What an edit makes of the bytes of a file.
use Rattle.std.specs.Prelude.{ℕ, ◌≡◌, ◌⊎◌, not, Bool, List, [], ◌∷◌, ◌++◌, IsTrue}
use Rattle.std.specs.Prelude.{nat_eq, if◌then◌else◌}
use Rattle.std.specs.List.{starts_with}
use Rattle.std.specs.Str.{encode_utf8_all}
use Rattle.dotenvy.specs.Dialect.{Dialect}
use Rattle.dotenvy.specs.Characters.{line_feed, equals_sign}
use Rattle.dotenvy.specs.LogicalLine.{HasText, IsOpenEnd}
use Rattle.dotenvy.specs.Marks.{byte_order_mark, without_mark}
use Rattle.dotenvy.specs.Outcome.{trimmed}
use Rattle.dotenvy.specs.Statement.{IsStatement}
use Rattle.dotenvy_editor.specs.declared.writing.How.{How}
use Rattle.dotenvy_editor.specs.Assignments.{Assigning, AssignsKey, NoneAssigns, AreOthers, IsUnreadable}
use Rattle.dotenvy_editor.specs.Assignments.{Spot, IsSpot}
use Rattle.dotenvy_editor.specs.Ends.{IsGap, last_end}
use Rattle.dotenvy_editor.specs.Forms.{is_long}
use Rattle.dotenvy_editor.specs.Lines.{WritesLine}
use Rattle.dotenvy_editor.specs.Slices.{Slice, AreSlices, NoneIs, slices_bytes}

-- the bytes begin with a byte order mark
abbrev pub has_mark : List ℕ → Bool
has_mark bytes = starts_with nat_eq bytes byte_order_mark

-- the byte order mark at the start of the bytes, or nothing
abbrev pub mark_of : List ℕ → List ℕ
mark_of bytes = if has_mark bytes then byte_order_mark else []

-- the mark at the start stays, and the bytes after it are edited so
abbrev pub EditsBody : (List ℕ → List ℕ → Type 0) → List ℕ → List ℕ → Type 0
EditsBody Edits old new =
    (body : List ℕ) × Edits (without_mark old) body × (new ≡ mark_of old ++ body)

-- the slice is an assignment of the key, in whose spot P holds of what comes after the value
pub record AssignsBefore (dialect : Dialect) (key : List ℕ) (P : List ℕ → Type 0) (slice : Slice)
    : Type 0 where
  pub text : List ℕ
  pub is_text : slice.logical ≡ HasText text
  pub spot : Spot
  pub is_spot : IsSpot dialect key text slice.bytes spot
  pub holds : P spot.rest

-- the comment of this assignment goes on over several lines
abbrev pub HasLongComment : Dialect → List ℕ → Slice → Type 0
HasLongComment dialect key slice =
    AssignsBefore dialect key (λ rest. IsTrue (is_long rest)) slice

-- the comment of each assignment of the key among these slices is on one line
abbrev pub NoLongComments : Dialect → List ℕ → List Slice → Type 0
NoLongComments dialect key [] = Unit {0}
NoLongComments dialect key (slice ∷ slices) =
    (¬ (Assigning key slice)
    ⊎ AssignsBefore dialect key (λ rest. IsTrue (not (is_long rest))) slice)
    × NoLongComments dialect key slices

-- the first assignment of the key has the value, later ones are gone, and all else is kept
pub record SetsAssigned (how : How) (key value body new : List ℕ) : Type 0 where
  pub before : List Slice
  pub slice : Slice
  pub after : List Slice
  pub are : AreSlices body (before ++ slice ∷ after)
  pub none_before : NoneAssigns key before
  pub text : List ℕ
  pub is_text : slice.logical ≡ HasText text
  pub spot : Spot
  pub is_spot : IsSpot how.dialect key text slice.bytes spot
  pub others : List Slice
  pub are_others : AreOthers key after others
  pub none_long : NoLongComments how.dialect key after
  pub line : List ℕ
  pub writes : WritesLine how key value spot (slices_bytes others) line
  pub new_is : new ≡ slices_bytes before ++ (line ++ slices_bytes others)

-- none of these slices is unreadable
abbrev pub AllReadable : List ℕ → List Slice → Type 0
AllReadable key slices = NoneIs (IsUnreadable key) slices

-- what comes before an appended line in bytes of these slices: nothing in an empty file, else a gap, if the last
-- line isn't open
abbrev pub IsGapAfter : List ℕ → List Slice → List ℕ → Type 0
IsGapAfter body [] gap = gap ≡ []
IsGapAfter body (slice ∷ []) gap =
    ¬ (IsOpenEnd slice.logical) × IsGap body slice.logical gap
IsGapAfter body (slice ∷ next ∷ slices) gap = IsGapAfter body (next ∷ slices) gap

-- the spot of a line that is appended with this end
abbrev pub new_spot : List ℕ → List ℕ → Spot
new_spot key end = record { front = key ++ equals_sign ∷ []; old = []; rest = end }

-- no line assigns the key, and a line that does is appended
pub record SetsAbsent (how : How) (key value body new : List ℕ) : Type 0 where
  pub slices : List Slice
  pub are : AreSlices body slices
  pub none : NoneAssigns key slices
  pub readable : AllReadable key slices
  pub gap : List ℕ
  pub is_gap : IsGapAfter body slices gap
  pub line : List ℕ
  pub writes : WritesLine how key value (new_spot key (last_end body)) [] line
  pub new_is : new ≡ body ++ (gap ++ line)

-- a setting of the key in bytes without their mark
abbrev pub SetsBody : How → List ℕ → List ℕ → List ℕ → List ℕ → Type 0
SetsBody how key value body new =
    SetsAssigned how key value body new ⊎ SetsAbsent how key value body new

-- a setting of the key in a file
abbrev pub Sets : How → List ℕ → List ℕ → List ℕ → List ℕ → Type 0
Sets how key value old new = EditsBody (SetsBody how key value) old new

-- bytes that don't begin with a mark: an empty line comes before one
abbrev pub behind_line : List ℕ → List ℕ
behind_line bytes = if has_mark bytes then line_feed ∷ bytes else bytes

-- the assignments of the key are gone, and all else is kept; where the file had no mark it gets none
pub record Unsets (dialect : Dialect) (key old new : List ℕ) : Type 0 where
  pub before : List Slice
  pub slice : Slice
  pub after : List Slice
  pub are : AreSlices (without_mark old) (before ++ slice ∷ after)
  pub none_before : NoneAssigns key before
  pub assigns : AssignsKey key slice.logical
  pub none_long : NoLongComments dialect key (slice ∷ after)
  pub later : List Slice
  pub are_others : AreOthers key after later
  pub new_is :
      new
      ≡ (if has_mark old then byte_order_mark ++ slices_bytes (before ++ later)
      else behind_line (slices_bytes (before ++ later)))

-- the line of an assignment, in which the new key is in the place of the old one
pub record RenamesLine (old new : List ℕ) (slice : Slice) (line : List ℕ) : Type 0 where
  pub text : List ℕ
  pub is_text : slice.logical ≡ HasText text
  pub assigned : List ℕ
  pub statement : IsStatement (trimmed text) old assigned
  pub later : List ℕ
  pub spelled :
      slice.bytes
      ≡ encode_utf8_all (statement.indent ++ (statement.prefix ++ (old ++ later)))
  pub line_is :
      line ≡ encode_utf8_all (statement.indent ++ (statement.prefix ++ (new ++ later)))

-- each assignment of the old key has the new one, and all else is kept
abbrev pub RenamesAll : List ℕ → List ℕ → List Slice → List ℕ → Type 0
RenamesAll old new [] bytes = bytes ≡ []
RenamesAll old new (slice ∷ slices) bytes =
    (line later : List ℕ) × (bytes ≡ line ++ later) × RenamesAll old new slices later
    × ((AssignsKey old slice.logical × RenamesLine old new slice line)
    ⊎ (¬ (AssignsKey old slice.logical) × (line ≡ slice.bytes)))

-- the key is renamed in bytes without their mark, in which a line assigns it, and none the new key
pub record RenamesBody (old new body bytes : List ℕ) : Type 0 where
  pub before : List Slice
  pub slice : Slice
  pub after : List Slice
  pub are : AreSlices body (before ++ slice ∷ after)
  pub assigns : AssignsKey old slice.logical
  pub none : NoneAssigns new (before ++ slice ∷ after)
  pub renames : RenamesAll old new (before ++ slice ∷ after) bytes

-- the key is renamed in a file
abbrev pub Renames : List ℕ → List ℕ → List ℕ → List ℕ → Type 0
Renames old new before after = EditsBody (RenamesBody old new) before after
