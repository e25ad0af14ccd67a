-- What the code makes of the lines of a file, one after another.
use Rattle.std.specs.Prelude.{ℕ, ◌≡◌, ◌⊎◌, ◌||◌, not, Bool, true, false, List, [], ◌∷◌, ◌++◌, IsTrue}
use Rattle.std.specs.Prelude.{MatchBool, Some, None, if◌then◌else◌}
use Rattle.std.specs.Str.{chars}
use Rattle.dotenvy.specs.Characters.{carriage_return, line_feed}
use Rattle.dotenvy.specs.LogicalLine.{HasText}
use Rattle.dotenvy_editor.specs.declared.change.Change.{Change}
use Rattle.dotenvy_editor.specs.declared.change.Change.TheVariants as change
use Rattle.dotenvy_editor.specs.declared.editing.Editing.{Editing}
use Rattle.dotenvy_editor.specs.declared.refusal.Reason.{Reason}
use Rattle.dotenvy_editor.specs.declared.refusal.Reason.TheVariants.{LongComment, Unreadable, Absent}
use Rattle.dotenvy_editor.specs.declared.notes.Last.{Last}
use Rattle.dotenvy_editor.specs.declared.notes.Last.TheVariants.{Closed, Fault, Open}
use Rattle.dotenvy_editor.specs.declared.notes.Notes.{Notes}
use Rattle.dotenvy_editor.specs.declared.writing.How.{How}
use Rattle.dotenvy_editor.specs.declared.writing.Setting.{Setting}
use Rattle.dotenvy_editor.specs.Assignments.{AreOthers, Assigning, IsSpot, NoneAssigns, Spot}
use Rattle.dotenvy_editor.specs.Edits.{NoLongComments, RenamesAll, RenamesLine, behind_line, new_spot}
use Rattle.dotenvy_editor.specs.Ends.{ends_in, feed, last_end, return_feed}
use Rattle.dotenvy_editor.specs.Forms.{is_long, is_nil}
use Rattle.dotenvy_editor.specs.Lines.{WritesLine, WritesNone}
use Rattle.dotenvy_editor.specs.Refusals.{Place}
use Rattle.dotenvy_editor.specs.Slices.{AreSlices, ComeBefore, Slice, line_after, slices_bytes}
use Rattle.dotenvy_editor.specs.TakenSlices.{LinesState}
use Rattle.dotenvy_editor.specs.inside.Changing.{dialect_of, key_of}
use Rattle.dotenvy_editor.specs.inside.Noted.{AreNoted}
use Rattle.dotenvy_editor.specs.inside.Tried.{IsUnwritten}

-- bytes as they are kept after others, or as the first ones: an unset puts an empty line before a mark
abbrev pub kept : Change → Bool → List ℕ → List ℕ
kept (change.Unset key dialect) true bytes = behind_line bytes
kept of first bytes = bytes

-- the change of an assignment in this spot appends these bytes; the key was found before, or not
abbrev pub Changes : Change → Bool → Slice → Spot → List ℕ → Type 0
Changes (change.Set setting) false slice spot bytes =
    WritesLine setting.how (chars setting.key.now) (chars setting.value.now) spot [] bytes
Changes (change.Set setting) true slice spot bytes =
    IsTrue (not (is_long spot.rest)) × (bytes ≡ [])
Changes (change.Unset key dialect) found slice spot bytes =
    IsTrue (not (is_long spot.rest)) × (bytes ≡ [])
Changes (change.Rename old new dialect) found slice spot bytes =
    RenamesLine (chars old.now) (chars new.now) slice bytes

-- the change of an assignment in this spot is refused; the key was found before, or not
abbrev pub RefusesChange : Change → Bool → Spot → Reason → Type 0
RefusesChange (change.Set setting) false spot reason =
    IsUnwritten setting.how (chars setting.value.now) spot reason
    × WritesNone setting.how (chars setting.key.now) (chars setting.value.now) spot []
RefusesChange (change.Set setting) true spot reason =
    (reason ≡ LongComment) × IsTrue (is_long spot.rest)
RefusesChange (change.Unset key dialect) found spot reason =
    (reason ≡ LongComment) × IsTrue (is_long spot.rest)
RefusesChange (change.Rename old new dialect) found spot reason = ⊥

-- bytes of which P holds are appended
abbrev pub Appends : (List ℕ → Type 0) → List ℕ → List ℕ → Type 0
Appends P old new = (bytes : List ℕ) × P bytes × (new ≡ old ++ bytes)

-- the assignment of a setting is written in its spot, and of those after it none is kept
pub record SetsFrom (how : How) (key value : List ℕ) (slice : Slice) (after : List Slice)
    (bytes : List ℕ) : Type 0 where
  pub text : List ℕ
  pub is_text : slice.logical ≡ HasText text
  pub spot : Spot
  pub is_spot : IsSpot how.dialect key text slice.bytes spot
  pub others : List Slice
  pub are_others : AreOthers key after others
  pub none_long : NoLongComments how.dialect key after
  pub line : List ℕ
  pub writes : WritesLine how key value spot [] line
  pub bytes_is : bytes ≡ line ++ slices_bytes others

-- from the first assignment on the slices are changed to these bytes
abbrev pub ChangesFrom : Change → Slice → List Slice → List ℕ → Type 0
ChangesFrom (change.Set setting) slice after bytes =
    SetsFrom setting.how (chars setting.key.now) (chars setting.value.now) slice after bytes
ChangesFrom (change.Unset key dialect) slice after bytes =
    NoLongComments dialect (chars key.now) (slice ∷ after)
    × (others : List Slice) × AreOthers (chars key.now) after others × (bytes ≡ slices_bytes others)
ChangesFrom (change.Rename old new dialect) slice after bytes =
    RenamesAll (chars old.now) (chars new.now) (slice ∷ after) bytes

-- slices with an assignment, the first one, are changed to these bytes
pub record ChangesFound (of : Change) (slices : List Slice) (bytes : List ℕ) : Type 0 where
  pub before : List Slice
  pub slice : Slice
  pub after : List Slice
  pub are : slices ≡ before ++ slice ∷ after
  pub none_before : NoneAssigns (key_of of) before
  pub assigns : Assigning (key_of of) slice
  pub later : List ℕ
  pub changes : ChangesFrom of slice after later
  pub bytes_is : bytes ≡ slices_bytes before ++ later

-- slices are changed to these bytes: an assignment was found among them, or not
abbrev pub AreChanged : Change → Bool → List Slice → List ℕ → Type 0
AreChanged of false slices bytes =
    NoneAssigns (key_of of) slices × (bytes ≡ slices_bytes slices)
AreChanged of true slices bytes = ChangesFound of slices bytes

-- some lines of a body were read, noted and changed
pub record ChangesSoFar {A : Type 0} (body : List ℕ) (lines : LinesState) (old new : Editing A)
    : Type 0 where
  pub slices : List Slice
  pub before : lines.before ≡ slices_bytes slices
  pub joins : body ≡ slices_bytes slices ++ lines.left
  pub come : ComeBefore slices lines.left
  pub same : new.change ≡ old.change
  pub noted : AreNoted old.change slices new.notes
  pub bytes : List ℕ
  pub changed : AreChanged old.change new.is_found slices bytes
  pub out : new.out.items ≡ old.out.items ++ kept old.change (is_nil old.out.items) bytes

-- all lines of a body were read, noted and changed
pub record ChangesAll {A : Type 0} (body : List ℕ) (old new : Editing A) : Type 0 where
  pub slices : List Slice
  pub are : AreSlices body slices
  pub same : new.change ≡ old.change
  pub noted : AreNoted old.change slices new.notes
  pub bytes : List ℕ
  pub changed : AreChanged old.change new.is_found slices bytes
  pub out : new.out.items ≡ old.out.items ++ kept old.change (is_nil old.out.items) bytes

-- the change of a line of a body is refused, which is the first assignment or a later one
pub record RefusesLine (of : Change) (body : List ℕ) (reason : Reason) (line : ℕ) : Type 0 where
  pub place : Place body
  pub line_is : line ≡ line_after place.before
  pub text : List ℕ
  pub is_text : place.slice.logical ≡ HasText text
  pub spot : Spot
  pub is_spot : IsSpot (dialect_of of) (key_of of) text place.slice.bytes spot
  pub found : Bool
  pub known :
      MatchBool found (¬ (NoneAssigns (key_of of) place.before)) (NoneAssigns (key_of of) place.before)
  pub refuses : RefusesChange of found spot reason

-- what ends a carriage return before something is appended, by what the last line is
abbrev pub end_after : Last → List ℕ
end_after Fault = return_feed
end_after Closed = feed
end_after (Open reason line) = feed

-- what ends a body before something is appended, by what its last line is
abbrev pub gap_after : List ℕ → Last → List ℕ
gap_after body last =
    if is_nil body || ends_in line_feed body then []
    else (if ends_in carriage_return body then end_after last else last_end body)

-- something can be appended after such a last line
abbrev pub IsShut : Last → Type 0
IsShut Closed = Unit {0}
IsShut Fault = Unit {0}
IsShut (Open reason line) = ⊥

-- a setting is appended to a body with these notes, in which nothing is unreadable and no end is open
pub record AppendsLine (setting : Setting) (notes : Notes) (body old new : List ℕ) : Type 0 where
  pub readable : notes.unreadable ≡ None
  pub shut : IsShut notes.last
  pub line : List ℕ
  pub writes :
      WritesLine setting.how (chars setting.key.now) (chars setting.value.now)
      (new_spot (chars setting.key.now) (last_end body)) [] line
  pub out : new ≡ old ++ (gap_after body notes.last ++ line)

-- why nothing is appended after lines with these notes
abbrev pub RefusesAppend : Notes → Reason → ℕ → Type 0
RefusesAppend notes reason line =
    ((reason ≡ Unreadable) × (notes.unreadable ≡ Some line))
    ⊎ ((notes.unreadable ≡ None) × (notes.last ≡ Open reason line))

-- why lines with these notes have no assignment of the key
abbrev pub RefusesNone : Notes → Reason → ℕ → Type 0
RefusesNone notes reason line =
    ((reason ≡ Unreadable) × (notes.unreadable ≡ Some line))
    ⊎ ((reason ≡ Absent) × (notes.unreadable ≡ None) × (line ≡ 0))
