-- Why an edit is refused, and at which line.
use Rattle.std.specs.Prelude.{ℕ, ◌≡◌, ◌⊎◌, ◌&&◌, not, true, List, [], ◌∷◌, ◌++◌, IsTrue, Some}
use Rattle.dotenvy.specs.Dialect.{Dialect}
use Rattle.dotenvy.specs.Characters.{line_feed}
use Rattle.dotenvy.specs.Keys.{is_key}
use Rattle.dotenvy.specs.LogicalLine.{HasText, IsWhole, StaysOpen}
use Rattle.dotenvy.specs.Marks.{without_mark}
use Rattle.dotenvy_editor.specs.declared.refusal.Reason.{Reason}
use Rattle.dotenvy_editor.specs.declared.refusal.Reason.TheVariants.{Key, Nul, Absent, Present}
use Rattle.dotenvy_editor.specs.declared.refusal.Reason.TheVariants.{QuoteOpen, EndOpen}
use Rattle.dotenvy_editor.specs.declared.refusal.Reason.TheVariants.{Unreadable, LongComment}
use Rattle.dotenvy_editor.specs.declared.refusal.Reason.TheVariants.{Unportable as no_form}
use Rattle.dotenvy_editor.specs.declared.refusal.Unedited.{Unedited}
use Rattle.dotenvy_editor.specs.declared.refusal.Unedited.TheVariants.{Refused, Memory}
use Rattle.dotenvy_editor.specs.declared.refusal.Unportable.{Unportable}
use Rattle.dotenvy_editor.specs.declared.refusal.Unportable.TheVariants.{Mark, WhiteSpace, Comment}
use Rattle.dotenvy_editor.specs.declared.writing.How.{How}
use Rattle.dotenvy_editor.specs.Assignments.{AssignsKey, NoneAssigns, IsUnreadable, Spot, IsSpot}
use Rattle.dotenvy_editor.specs.Edits.{AllReadable, HasLongComment, has_mark}
use Rattle.dotenvy_editor.specs.Forms.{has, comment_of}
use Rattle.dotenvy_editor.specs.Lines.{WritesNone}
use Rattle.dotenvy_editor.specs.Portable.{has_white_space, portable_forms, spot_forms}
use Rattle.dotenvy_editor.specs.Portable.{value_refusal}
use Rattle.dotenvy_editor.specs.Slices.{Slice, AreSlices, ComeBefore, line_after, slices_bytes}

-- there is no edited file, since an allocation failed
abbrev pub IsMemory : Unedited → Type 0
IsMemory (Refused refusal) = ⊥
IsMemory (Memory failed) = Unit {0}

-- the edit is refused for a reason and at a line of which R holds, or an allocation failed
abbrev pub IsRefused : (Reason → ℕ → Type 0) → Unedited → Type 0
IsRefused R (Refused refusal) = R refusal.reason refusal.line
IsRefused R (Memory failed) = Unit {0}

-- one slice of a file, after those before it; other bytes may follow
pub record Place (body : List ℕ) : Type 0 where
  pub before : List Slice
  pub slice : Slice
  pub later : List ℕ
  pub cut : body ≡ slices_bytes before ++ (slice.bytes ++ later)
  pub come : ComeBefore (before ++ slice ∷ []) later

-- a slice of the file with this fact begins at the line; of those before it another fact holds
abbrev pub AtFirst : List ℕ → (List Slice → Type 0) → (Slice → Type 0) → ℕ → Type 0
AtFirst body OfBefore OfSlice line =
    (place : Place body) × OfBefore place.before × OfSlice place.slice
    × (line ≡ line_after place.before)

-- no line of the file assigns the key
abbrev pub HasNone : List ℕ → List ℕ → Type 0
HasNone body key = (slices : List Slice) × AreSlices body slices × NoneAssigns key slices

-- no line of the file assigns the key, or begins with it and can't be read
abbrev pub IsAbsent : List ℕ → List ℕ → Type 0
IsAbsent body key =
    (slices : List Slice) × AreSlices body slices × NoneAssigns key slices × AllReadable key slices

-- no line assigns the key, and the line is the first that begins with it and can't be read
abbrev pub CannotRead : List ℕ → List ℕ → ℕ → Type 0
CannotRead body key line =
    HasNone body key × AtFirst body (AllReadable key) (IsUnreadable key) line

-- a line feed after the text would end the line: its last character is a backslash, or a blank
abbrev pub EndsAtFeed : List ℕ → Type 0
EndsAtFeed text = (kept : List ℕ) × IsWhole (text ++ line_feed ∷ []) kept ⊥

-- the logical line stays open, and its text has this fact
abbrev pub OpensWith : (List ℕ → Type 0) → Slice → Type 0
OpensWith P slice =
    (text : List ℕ) × (index : ℕ) × (slice.logical ≡ StaysOpen text index) × P text

-- the setting would be appended after an open end that begins at this line
abbrev pub OpensAt : List ℕ → List ℕ → (List ℕ → Type 0) → ℕ → Type 0
OpensAt body key P line =
    IsAbsent body key × (place : Place body) × OpensWith P place.slice
    × (line ≡ line_after place.before)

-- the line is the first assignment of the key, in whose spot a setting can write no line, though
-- for other readers, too, it has a form to try
abbrev pub HasNoLine : How → List ℕ → List ℕ → Slice → Type 0
HasNoLine how key value slice =
    (text : List ℕ) × (spot : Spot) × (slice.logical ≡ HasText text)
    × IsSpot how.dialect key text slice.bytes spot
    × ¬ ((how.is_portable ≡ true) × (spot_forms value spot ≡ []))
    × WritesNone how key value spot []

-- an assignment of the key on this line, whose comment goes on over several lines, after slices of which P holds
abbrev pub IsLongAt : Dialect → List ℕ → List ℕ → (List Slice → Type 0) → ℕ → Type 0
IsLongAt dialect body key P line =
    (place : Place body) × P place.before × HasLongComment dialect key place.slice
    × (line ≡ line_after place.before)

-- the line is the first assignment of the key, and P holds of its spot
abbrev pub AtSpot : Dialect → List ℕ → List ℕ → (Spot → Type 0) → ℕ → Type 0
AtSpot dialect body key P line =
    AtFirst body (NoneAssigns key)
    (λ slice. (text : List ℕ) × (spot : Spot) × (slice.logical ≡ HasText text)
    × IsSpot dialect key text slice.bytes spot × P spot) line

-- why a file has no portable line: its mark, the value, or the white space or the comment of the line
abbrev pub IsUnportable : How → List ℕ → List ℕ → List ℕ → Unportable → ℕ → Type 0
IsUnportable how key value bytes Mark line = IsTrue (has_mark bytes) × (line ≡ 1)
IsUnportable how key value bytes WhiteSpace line =
    AtSpot how.dialect (without_mark bytes) key (λ spot. IsTrue (has_white_space spot)) line
IsUnportable how key value bytes Comment line =
    AtSpot how.dialect (without_mark bytes) key
    (λ spot. IsTrue (not (has_white_space spot))
    × (portable_forms value (comment_of spot.rest) ≡ [])) line
IsUnportable how key value bytes reason line =
    (value_refusal value ≡ Some reason) × (line ≡ 0)

-- why a setting is refused, at which line
abbrev pub RefusesSet : How → List ℕ → List ℕ → List ℕ → Reason → ℕ → Type 0
RefusesSet how key value bytes Key line = IsTrue (not (is_key key)) × (line ≡ 0)
RefusesSet how key value bytes Nul line = IsTrue (has 0 value) × (line ≡ 0)
RefusesSet how key value bytes Absent line = ⊥
RefusesSet how key value bytes Present line = ⊥
RefusesSet how key value bytes QuoteOpen line =
    OpensAt (without_mark bytes) key (λ text. ¬ (EndsAtFeed text)) line
RefusesSet how key value bytes EndOpen line = OpensAt (without_mark bytes) key EndsAtFeed line
RefusesSet how key value bytes Unreadable line = CannotRead (without_mark bytes) key line
RefusesSet how key value bytes LongComment line =
    AtFirst (without_mark bytes) (NoneAssigns key) (HasNoLine how key value) line
    ⊎ IsLongAt how.dialect (without_mark bytes) key (λ before. ¬ (NoneAssigns key before)) line
RefusesSet how key value bytes (no_form reason) line =
    (how.is_portable ≡ true) × IsUnportable how key value bytes reason line

-- why an unset is refused, at which line
abbrev pub RefusesUnset : Dialect → List ℕ → List ℕ → Reason → ℕ → Type 0
RefusesUnset dialect key bytes Key line = IsTrue (not (is_key key)) × (line ≡ 0)
RefusesUnset dialect key bytes Nul line = ⊥
RefusesUnset dialect key bytes Absent line = IsAbsent (without_mark bytes) key × (line ≡ 0)
RefusesUnset dialect key bytes Present line = ⊥
RefusesUnset dialect key bytes QuoteOpen line = ⊥
RefusesUnset dialect key bytes EndOpen line = ⊥
RefusesUnset dialect key bytes Unreadable line = CannotRead (without_mark bytes) key line
RefusesUnset dialect key bytes LongComment line =
    IsLongAt dialect (without_mark bytes) key (λ before. Unit {0}) line
RefusesUnset dialect key bytes (no_form reason) line = ⊥

-- why a rename is refused, at which line
abbrev pub RefusesRename : List ℕ → List ℕ → List ℕ → Reason → ℕ → Type 0
RefusesRename old new bytes Key line = IsTrue (not (is_key old && is_key new)) × (line ≡ 0)
RefusesRename old new bytes Nul line = ⊥
RefusesRename old new bytes Absent line = IsAbsent (without_mark bytes) old × (line ≡ 0)
RefusesRename old new bytes Present line =
    AtFirst (without_mark bytes) (NoneAssigns new) (λ slice. AssignsKey new slice.logical) line
RefusesRename old new bytes QuoteOpen line = ⊥
RefusesRename old new bytes EndOpen line = ⊥
RefusesRename old new bytes Unreadable line = CannotRead (without_mark bytes) old line
RefusesRename old new bytes LongComment line = ⊥
RefusesRename old new bytes (no_form reason) line = ⊥
