-- The slices that the code takes one by one, and the numbers of their lines.
use Rattle.std.specs.Prelude.{ℕ, ◌≡◌, ◌≢◌, ◌⊎◌, ◌+◌, ◌<◌, List, [], ◌∷◌, ◌++◌, length, drop}
use Rattle.std.specs.Prelude.{Option, Some, None, IsSome, string_bytes}
use Rattle.std.specs.Option.{option_map_or}
use Rattle.std.specs.Str.{chars}
use Rattle.dotenvy.specs.Input.{end_reads}
use Rattle.dotenvy.specs.Lines.{LinesState as SplitterLines, GoesOn}
use Rattle.dotenvy_lines.specs.inside.NextLine.{CountsLine, TakesNext}
use Rattle.std.specs.declared.string.String.{String}
use Rattle.dotenvy_lines.specs.declared.lines.Stage.TheVariants.{Open as stage_open}
use Rattle.dotenvy.specs.Characters.{byte_len, line_feed}
use Rattle.dotenvy.specs.PhysicalLines.{physical_lines}
use Rattle.dotenvy.specs.LogicalLine.{Logical, Skip, HasText, StaysOpen, Broken}
use Rattle.dotenvy_editor.specs.declared.lines.Kind.{Kind}
use Rattle.dotenvy_editor.specs.declared.lines.Kind.TheVariants.{Text, Open}
use Rattle.dotenvy_editor.specs.declared.lines.Kind.TheVariants.{Broken as not_utf8}
use Rattle.dotenvy_editor.specs.declared.lines.Slice.{Slice}
use Rattle.dotenvy_editor.specs.Slices.{IsNextSlice, line_count}

-- a file that is cut: the bytes of the slices so far, those left, and those of the last text
pub record LinesState : Type 0 where
  pub before : List ℕ
  pub left : List ℕ
  pub text : List ℕ

-- nothing of these bytes is taken yet
abbrev pub IsFresh : LinesState → List ℕ → Type 0
IsFresh state bytes = (state.before ≡ []) × (state.left ≡ bytes)

-- a logical line of this kind with this text, which is empty for a comment
abbrev pub IsOfKind : Kind → List ℕ → Logical → Type 0
IsOfKind Text text logical = ((logical ≡ Skip) × (text ≡ [])) ⊎ (logical ≡ HasText text)
IsOfKind Open text logical = logical ≡ StaysOpen text (byte_len text)
IsOfKind not_utf8 text logical = logical ≡ Broken

-- the slice is the next one of what is left, of which the new state tells the text
pub record TakesSlice (old : LinesState) (slice : Slice) (new : LinesState) : Type 0 where
  pub logical : Logical
  pub is_kind : IsOfKind slice.kind (chars new.text) logical
  pub is_next : IsNextSlice slice.bytes.now logical new.left
  pub cut : old.left ≡ slice.bytes.now ++ new.left
  pub taken : new.before ≡ old.before ++ slice.bytes.now
  pub first_is : slice.first ≡ line_count old.before + 1
  pub last_is : slice.last ≡ line_count new.before

-- the next slice is given, or nothing is left
abbrev pub GivesSlice : LinesState → Option Slice → LinesState → Type 0
GivesSlice old None new = (old.left ≡ []) × (new.left ≡ []) × (new.before ≡ old.before)
GivesSlice old (Some slice) new = TakesSlice old slice new

-- the splitter has these bytes left, which no fault follows, and reads enough for all of them
pub record HasLeft (splitter : SplitterLines) (before left : List ℕ) : Type 0 where
  pub is_left : splitter.input.left ≡ Some (record { bytes = left; fault = None })
  pub reads :
      length left
      < splitter.input.reads + splitter.input.unread + end_reads splitter.input.at_end
  pub counts : splitter.lines_taken ≡ line_count before

-- the bytes end with a line feed, or there are none
abbrev pub EndsLine : List ℕ → Type 0
EndsLine bytes = (bytes ≡ []) ⊎ ((front : List ℕ) × (bytes ≡ front ++ line_feed ∷ []))

-- whole lines may end between these bytes and the rest
abbrev pub IsLineEnd : List ℕ → List ℕ → Type 0
IsLineEnd bytes rest = EndsLine bytes ⊎ (rest ≡ [])

-- the rest comes after so many whole lines, if there are as many
pub record SkipsLines (bytes : List ℕ) (count : ℕ) (rest : List ℕ) : Type 0 where
  pub front : List ℕ
  pub spelled : bytes ≡ front ++ rest
  pub is_end : IsLineEnd front rest
  pub lines : physical_lines rest ≡ drop count (physical_lines bytes)

-- the splitter reads on after whole lines, or nothing is left
pub record ReadsOn (splitter : SplitterLines) (before left : List ℕ) : Type 0 where
  pub is_end : IsLineEnd before left
  pub on : splitter.stage ≡ stage_open → HasLeft splitter before left
  pub shut : splitter.stage ≢ stage_open → left ≡ []

-- the text of the last line: that of one that stays open, once one was met
abbrev pub text_of : {A : Type 0} → Option (String A) → List ℕ → List ℕ
text_of unclosed line = option_map_or string_bytes unclosed line

-- a line that stays open was met, and nothing is left after it
abbrev pub NothingBehind : {A : Type 0} → Option (String A) → List ℕ → Type 0
NothingBehind unclosed left = IsSome unclosed → left ≡ []

-- of these bytes the next logical line was taken, which is of this kind
pub record TakesLine {A : Type 0} (left : List ℕ) (s : SplitterLines) (kind : Kind)
    (unclosed : Option (String A))
    (line : List ℕ) (t : SplitterLines) : Type 0 where
  pub was_open : s.stage ≡ stage_open
  pub logical : Logical
  pub is_kind : IsOfKind kind (chars (text_of unclosed line)) logical
  pub count : ℕ
  pub takes : TakesNext (record { bytes = left; fault = None }) s.input logical count t.input
  pub counts : CountsLine s count t
  pub goes_on : GoesOn t
  pub behind : NothingBehind unclosed takes.left

-- of these bytes the next logical line was taken, if any are left
abbrev pub TakesKind : {A : Type 0} → List ℕ → SplitterLines → Option Kind → Option (String A) →
    List ℕ →
    SplitterLines → Type 0
TakesKind left s None unclosed line t = (left ≡ []) × (t.stage ≢ stage_open)
TakesKind left s (Some kind) unclosed line t = TakesLine left s kind unclosed line t
