-- Assignments of a key: which lines are one, and where its value is in the line.
use Rattle.std.specs.Prelude.{ℕ, ◌≡◌, ◌⊎◌, not, List, [], ◌∷◌, ◌++◌, take, IsTrue}
use Rattle.std.specs.Prelude.{if◌then◌else◌}
use Rattle.std.specs.Str.{chars, encode_utf8_all}
use Rattle.std.specs.Str.Lossy.{utf8_valid_len}
use Rattle.dotenvy.specs.Dialect.{Dialect}
use Rattle.dotenvy.specs.Characters.{equals_sign, is_empty_or_comment}
use Rattle.dotenvy.specs.LogicalLine.{Logical, Skip, HasText, StaysOpen, Broken}
use Rattle.dotenvy.specs.Outcome.{trimmed, is_nothing}
use Rattle.dotenvy.specs.Statement.{IsStatement}
use Rattle.dotenvy.specs.Value.{Piece, Segment, Close, no_close, lone_backslash, bare_name, tail}
use Rattle.dotenvy.specs.Value.{AreSegments, IsClose, IsValue, close_text, segments_text}
use Rattle.dotenvy_editor.specs.Slices.{Slice, NoneIs}

-- a line with this text is a statement of the key, whatever it assigns
abbrev pub StatesKey : List ℕ → List ℕ → Type 0
StatesKey key text =
    IsTrue (not (is_nothing (trimmed text)))
    × (assigned : List ℕ) × IsStatement (trimmed text) key assigned

-- the logical line is an assignment of the key: a declaration, or a fault in the value
abbrev pub AssignsKey : List ℕ → Logical → Type 0
AssignsKey key Skip = ⊥
AssignsKey key (HasText text) = StatesKey key text
AssignsKey key (StaysOpen text index) = ⊥
AssignsKey key Broken = ⊥

-- the slice is an assignment of the key
abbrev pub Assigning : List ℕ → Slice → Type 0
Assigning key slice = AssignsKey key slice.logical

-- no slice of these assigns the key
abbrev pub NoneAssigns : List ℕ → List Slice → Type 0
NoneAssigns key slices = NoneIs (Assigning key) slices

-- of these slices the others are those that don't assign the key, in order
abbrev pub AreOthers : List ℕ → List Slice → List Slice → Type 0
AreOthers key [] others = others ≡ []
AreOthers key (slice ∷ slices) others =
    (AssignsKey key slice.logical × AreOthers key slices others)
    ⊎ (¬ (AssignsKey key slice.logical)
    × (later : List Slice) × (others ≡ slice ∷ later) × AreOthers key slices later)

-- the characters of the bytes, as far as these are UTF-8
abbrev pub text_front : List ℕ → List ℕ
text_front bytes = chars (take (utf8_valid_len bytes) bytes)

-- the bytes begin with the key and `=`: as far as they are UTF-8, they are a statement of it
abbrev pub BeginsWithKey : List ℕ → List ℕ → Type 0
BeginsWithKey key bytes = StatesKey key (text_front bytes)

-- the logical line can't be read: it stays open up to the end of the file, or it isn't UTF-8
abbrev pub CannotBeRead : Logical → Type 0
CannotBeRead Skip = ⊥
CannotBeRead (HasText text) = ⊥
CannotBeRead (StaysOpen text index) = Unit {0}
CannotBeRead Broken = Unit {0}

-- the slice can't be read, and begins with the key and `=`
abbrev pub IsUnreadable : List ℕ → Slice → Type 0
IsUnreadable key slice = CannotBeRead slice.logical × BeginsWithKey key slice.bytes

-- the text of the end of a value as far as it has a meaning: all of it, but nothing of blanks and a comment
abbrev pub meant_close : Close → List ℕ
meant_close no_close = []
meant_close lone_backslash = close_text lone_backslash
meant_close (bare_name name) = close_text (bare_name name)
meant_close (tail blank blanks comment) = []

-- what is assigned is a value, of which this is left without blanks and a comment at its end
pub record IsValuePart (dialect : Dialect) (assigned old : List ℕ) : Type 0 where
  pub segments : List Segment
  pub close : Close
  pub are_segments : AreSegments dialect segments (close_text close)
  pub is_close : IsClose dialect close
  pub spelled : assigned ≡ segments_text segments ++ close_text close
  pub part : old ≡ segments_text segments ++ meant_close close

-- the old value: empty for nothing or a comment; the part of a value that has a meaning; or all of a fault
abbrev pub IsOldValue : Dialect → List ℕ → List ℕ → Type 0
IsOldValue dialect assigned old =
    (IsTrue (is_empty_or_comment assigned) × (old ≡ []))
    ⊎ (IsTrue (not (is_empty_or_comment assigned)) × IsValuePart dialect assigned old)
    ⊎ (IsTrue (not (is_empty_or_comment assigned))
    × ((pieces : List Piece) → ¬ (IsValue dialect assigned pieces)) × (old ≡ assigned))

-- an assignment cut in three: the text before its value, the value, and what comes after it
pub record Spot : Type 0 where
  pub front : List ℕ
  pub old : List ℕ
  pub rest : List ℕ

-- the text of a spot
abbrev pub spot_text : Spot → List ℕ
spot_text spot = spot.front ++ (spot.old ++ spot.rest)

-- the spot of the value in an assignment of the key: before it is all up to `=`, and white space
-- after that where something else than a comment is assigned
pub record IsSpot (dialect : Dialect) (key text : List ℕ) (slice : List ℕ) (spot : Spot)
    : Type 0 where
  pub assigned : List ℕ
  pub statement : IsStatement (trimmed text) key assigned
  pub is_old : IsOldValue dialect assigned spot.old
  pub front_is :
      spot.front
      ≡ statement.indent
      ++ (statement.prefix ++ (key ++ (statement.before ++ equals_sign
      ∷ (if is_empty_or_comment assigned then [] else statement.after))))
  pub spelled : slice ≡ encode_utf8_all (spot_text spot)
