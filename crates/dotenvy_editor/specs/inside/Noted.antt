-- What the code notes of the lines of a file, one after another.
use Rattle.std.specs.Prelude.{ℕ, ◌≡◌, ◌≢◌, ◌⊎◌, Bool, true, false, List, [], ◌∷◌, ◌++◌, Option}
use Rattle.std.specs.Prelude.{Some, None, if◌then◌else◌}
use Rattle.std.specs.Str.{chars}
use Rattle.dotenvy.specs.Characters.{carriage_return}
use Rattle.dotenvy.specs.LogicalLine.{HasText, IsOpenEnd}
use Rattle.dotenvy.specs.Outcome.{trimmed}
use Rattle.dotenvy.specs.Statement.{IsStatement}
use Rattle.dotenvy_format.specs.declared.walk.LineMode.{LineMode}
use Rattle.dotenvy_format.specs.declared.walk.LineMode.TheVariants.{Outside, Escaping, Inside}
use Rattle.dotenvy_format.specs.declared.walk.LineMode.TheVariants.{InsideEscaping, AfterBlank}
use Rattle.dotenvy_format.specs.inside.Walk.{going, walk}
use Rattle.dotenvy_editor.specs.declared.change.Change.{Change}
use Rattle.dotenvy_editor.specs.declared.change.Change.TheVariants as change
use Rattle.dotenvy_editor.specs.declared.editing.Assignment.{Assignment}
use Rattle.dotenvy_editor.specs.declared.lines.Slice.{Slice as SliceInCode}
use Rattle.dotenvy_editor.specs.declared.notes.Last.{Last}
use Rattle.dotenvy_editor.specs.declared.notes.Last.TheVariants.{Closed, Fault, Open}
use Rattle.dotenvy_editor.specs.declared.notes.Notes.{Notes}
use Rattle.dotenvy_editor.specs.declared.refusal.Reason.{Reason}
use Rattle.dotenvy_editor.specs.declared.refusal.Reason.TheVariants.{QuoteOpen, EndOpen}
use Rattle.dotenvy_editor.specs.Assignments.{Assigning, IsSpot, IsUnreadable, StatesKey}
use Rattle.dotenvy_editor.specs.Ends.{QuotesReturn, ends_in}
use Rattle.dotenvy_editor.specs.Refusals.{EndsAtFeed, OpensWith}
use Rattle.dotenvy_editor.specs.Slices.{HasLine, IsNextSlice, NoneIs, Slice, line_after}
use Rattle.dotenvy_editor.specs.TakenSlices.{IsOfKind}
use Rattle.dotenvy_editor.specs.inside.Changing.{dialect_of, key_of}
use Rattle.dotenvy_editor.specs.inside.Tried.{texts_of}

-- the slice assigns the new key of a rename
abbrev pub GivesNew : Change → Slice → Type 0
GivesNew (change.Set setting) slice = ⊥
GivesNew (change.Unset key dialect) slice = ⊥
GivesNew (change.Rename old new dialect) slice = Assigning (chars new.now) slice

-- the slice that the code has, with this text, is this one
abbrev pub IsSlice : SliceInCode → List ℕ → Slice → Type 0
IsSlice code text slice =
    (slice.bytes ≡ code.bytes.now) × IsOfKind code.kind text slice.logical

-- the slice that the code has, with this text, is the next one of some bytes
abbrev pub IsRead : SliceInCode → List ℕ → Type 0
IsRead code text =
    (slice : Slice) × (later : List ℕ) × IsSlice code text slice
    × IsNextSlice slice.bytes slice.logical later

-- nothing is noted yet
abbrev pub no_notes : Notes
no_notes = record { unreadable = None; present = None; last = Closed }

-- the first of two lines, if there is one
abbrev pub first_noted : Option ℕ → ℕ → Option ℕ
first_noted None line = Some line
first_noted (Some first) line = Some first

-- a line of which P holds is noted, unless one was
abbrev pub NotesIf : Type 0 → ℕ → Option ℕ → Option ℕ → Type 0
NotesIf P line old new = (P × (new ≡ first_noted old line)) ⊎ (¬ P × (new ≡ old))

-- a walk over the text goes on in this mode, which isn't outside quotes after a whole token
abbrev pub GoesOn : List ℕ → Type 0
GoesOn text = (mode : LineMode) × (walk Outside [] text ≡ going mode) × (mode ≢ Outside)

-- the mode is in quotes
abbrev pub is_inside : LineMode → Bool
is_inside Outside = false
is_inside Escaping = false
is_inside (Inside quote) = true
is_inside (InsideEscaping quote) = true
is_inside AfterBlank = false

-- an open text has this fact, for which nothing can be appended
abbrev pub OpensFor : Reason → List ℕ → Type 0
OpensFor QuoteOpen text = ¬ (EndsAtFeed text)
OpensFor EndOpen text = EndsAtFeed text
OpensFor reason text = ⊥

-- what a text that is no statement is as a last line
abbrev pub fault_last : List ℕ → Last
fault_last text = if ends_in carriage_return text then Fault else Closed

-- the slice that begins at this line is such a last line
abbrev pub IsLast : Slice → ℕ → Last → Type 0
IsLast slice line Closed = ¬ (IsOpenEnd slice.logical) × ¬ (QuotesReturn slice.logical)
IsLast slice line Fault = QuotesReturn slice.logical
IsLast slice line (Open reason first) = OpensWith (OpensFor reason) slice × (first ≡ line)

-- the slice that begins at this line is noted
pub record NotesLine (of : Change) (slice : Slice) (line : ℕ) (old new : Notes) : Type 0 where
  pub unreadable : NotesIf (IsUnreadable (key_of of) slice) line old.unreadable new.unreadable
  pub present : NotesIf (GivesNew of slice) line old.present new.present
  pub last : IsLast slice line new.last

-- the slice that the code has, with this text
abbrev pub text_slice : SliceInCode → List ℕ → Slice
text_slice code text = record { bytes = code.bytes.now; logical = HasText text }

-- the slice of an assignment
abbrev pub slice_of : Assignment → Slice
slice_of found = text_slice found.slice (chars found.text.now)

-- an assignment of the key, and the spot of its value
pub record IsAssignment (of : Change) (found : Assignment) : Type 0 where
  pub line : HasLine found.slice.bytes.now (chars found.text.now)
  pub states : StatesKey (key_of of) (chars found.text.now)
  pub key : chars found.statement.key.now ≡ key_of of
  pub statement :
      IsStatement (trimmed (chars found.text.now)) (chars found.statement.key.now)
      (chars found.statement.rest.now)
  pub spot :
      IsSpot (dialect_of of) (key_of of) (chars found.text.now) found.slice.bytes.now
      (texts_of found.spot)

-- the slice that the code has is an assignment of the key, which is found; or it is none
abbrev pub FindsAssignment : Change → SliceInCode → Slice → Option Assignment → Type 0
FindsAssignment of code slice None = ¬ (Assigning (key_of of) slice)
FindsAssignment of code slice (Some found) =
    IsAssignment of found × (found.slice ≡ code) × (slice ≡ slice_of found)

-- the line is that of the first of these slices of which P holds, if P holds of one
abbrev pub IsFirstOf : (Slice → Type 0) → List Slice → Option ℕ → Type 0
IsFirstOf P slices None = NoneIs P slices
IsFirstOf P slices (Some line) =
    (before : List Slice) × (slice : Slice) × (after : List Slice)
    × (slices ≡ before ++ slice ∷ after) × NoneIs P before × P slice × (line ≡ line_after before)

-- of these slices the last one is such a last line
abbrev pub AreLast : List Slice → Last → Type 0
AreLast slices last =
    ((slices ≡ []) × (last ≡ Closed))
    ⊎ ((before : List Slice) × (slice : Slice) × (slices ≡ before ++ slice ∷ [])
    × IsLast slice (line_after before) last)

-- these slices are noted
pub record AreNoted (of : Change) (slices : List Slice) (notes : Notes) : Type 0 where
  pub unreadable : IsFirstOf (IsUnreadable (key_of of)) slices notes.unreadable
  pub present : IsFirstOf (GivesNew of) slices notes.present
  pub last : AreLast slices notes.last
