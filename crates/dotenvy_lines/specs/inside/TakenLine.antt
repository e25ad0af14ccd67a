-- One physical line, in the pieces in which it is read, as a part of a logical line.
use Rattle.std.specs.Prelude.{ℕ, ◌≡◌, ◌≢◌, ◌+◌, ◌≤◌, ◌<◌, ◌⊎◌, nat_le, ◌||◌, Bool, true, false}
use Rattle.std.specs.Prelude.{List, [], ◌++◌, length, take, Option, Some, None, Result, Ok, Err}
use Rattle.std.specs.Prelude.{if◌then◌else◌}
use Rattle.std.specs.Str.{chars, IsUtf8, skip_leading_whitespace}
use Rattle.std.specs.declared.io.ErrorKind.{ErrorKind}
use Rattle.dotenvy_base.specs.declared.errors.Error.{Error}
use Rattle.dotenvy_format.specs.declared.walk.LineMode.{LineMode}
use Rattle.dotenvy_format.specs.declared.walk.LineMode.TheVariants.{Outside, Inside}
use Rattle.dotenvy_lines.specs.declared.physical_line.Progress.{Progress}
use Rattle.dotenvy_lines.specs.declared.physical_line.Progress.TheVariants.{Blank, Going, Ended, Comment}
use Rattle.dotenvy_lines.specs.declared.physical_line.After.{After}
use Rattle.dotenvy_lines.specs.declared.physical_line.After.TheVariants.{LineEnd, InputEnd, Broken, Unread}
use Rattle.dotenvy_lines.specs.declared.physical_line.Taken.{Taken}
use Rattle.dotenvy_lines.specs.declared.physical_line.Taken.TheVariants.{Going as taken_going}
use Rattle.dotenvy_lines.specs.declared.physical_line.Taken.TheVariants.{Ended as taken_ended}
use Rattle.dotenvy_lines.specs.declared.physical_line.Taken.TheVariants.{Comment as taken_comment}
use Rattle.dotenvy_lines.specs.declared.physical_line.Taken.TheVariants.{Broken as taken_broken}
use Rattle.dotenvy_format.specs.Characters.{begins_with, hash}
use Rattle.dotenvy_format.specs.PhysicalLines.{no_line_feed, is_whole_line}
use Rattle.dotenvy_format.specs.inside.LineEnd.{BeginsOpen, BeginsWhole}
use Rattle.dotenvy_format.specs.inside.Walk.{walk, going, ended, BeginsComment}
use Rattle.dotenvy_base.specs.Source.{Ahead}
use Rattle.dotenvy_lines.specs.Input.{InputState, IsFinal, input_measure}
use Rattle.dotenvy_lines.specs.inside.InputSteps.{TakesLine}

-- the longest front of the bytes that is text
pub record IsTextFront (bytes front : List ℕ) : Type 0 where
  pub text : IsUtf8 front
  pub within : length front ≤ length bytes
  pub is_front : front ≡ take (length front) bytes
  pub longest : (n : ℕ) → length front < n → n ≤ length bytes → ¬ (IsUtf8 (take n bytes))

-- what stands behind a text, where so many bytes of a piece are left that are no text
abbrev pub after_text : ℕ → Bool → Bool → After
after_text left whole at_end =
    if nat_le 1 left then (if whole || (at_end || nat_le 4 left) then Broken else Unread)
    else (if whole then LineEnd else (if at_end then InputEnd else Unread))

-- the text is the front of a line that is no comment; where no line feed ends it, more of it may follow
abbrev pub IsNoComment : List ℕ → Type 0
IsNoComment cs =
    (begins_with hash (skip_leading_whitespace cs) ≡ false)
    × (no_line_feed cs ≡ true → skip_leading_whitespace cs ≢ [])

-- cs, the front of a physical line, were walked from a mode, behind the text seen; this text is kept
abbrev pub Walks : LineMode → List ℕ → Progress → List ℕ → List ℕ → Type 0
Walks m seen (Blank n) cs text =
    (seen ≡ []) × (skip_leading_whitespace cs ≡ []) × (walk m seen cs ≡ going n) × (text ≡ cs)
Walks m seen (Going n) cs text =
    (seen ≡ [] → IsNoComment cs) × (walk m seen cs ≡ going n) × (text ≡ seen ++ cs)
Walks m seen Ended cs text = (seen ≡ [] → IsNoComment cs) × (walk m seen cs ≡ ended text)
Walks m seen Comment cs text = (seen ≡ []) × (begins_with hash (skip_leading_whitespace cs) ≡ true)

-- one more piece of a line whose front has no line feed
abbrev pub WalksOn : Progress → List ℕ → List ℕ → List ℕ → Progress → Type 0
WalksOn p old piece new q =
    (m : LineMode) (seen cs : List ℕ) → no_line_feed cs ≡ true → Walks m seen p cs old →
    Walks m seen q (cs ++ piece) new

-- a piece was walked from a mode, and is kept behind the old text as far as it goes
abbrev pub WalksFrom : LineMode → List ℕ → List ℕ → List ℕ → Progress → Type 0
WalksFrom m old piece new (Blank n) = ⊥
WalksFrom m old piece new (Going n) =
    ((seen : List ℕ) → walk m seen piece ≡ going n) × (new ≡ old ++ piece)
WalksFrom m old piece new Ended = walk m old piece ≡ ended new
WalksFrom m old piece new Comment = ⊥

-- how far a walk came, seen as one over white space alone
abbrev pub still_blank : Progress → Progress
still_blank (Blank n) = Blank n
still_blank (Going n) = Blank n
still_blank Ended = Ended
still_blank Comment = Comment

-- how far a walk came before its first character
abbrev pub starting : LineMode → Bool → Progress
starting m first = if first then Blank m else Going m

-- what a walk that reached the end of its line has taken
abbrev pub at_line_end : Progress → Taken
at_line_end (Blank n) = taken_going n
at_line_end (Going n) = taken_going n
at_line_end Ended = taken_ended
at_line_end Comment = taken_comment

-- what stands behind a text in what is left
abbrev pub Stands : After → List ℕ → List ℕ → Option ErrorKind → InputState → Type 0
Stands LineEnd piece left fault t = is_whole_line piece ≡ true
Stands InputEnd piece left fault t =
    (no_line_feed piece ≡ true) × (left ≡ []) × (fault ≡ None) × (t.at_end ≡ true) × (t.unread ≡ 0)
Stands Broken piece left fault t =
    (no_line_feed piece ≡ true)
    × ((line later : List ℕ) → left ≡ line ++ later →
    (is_whole_line line ≡ true) ⊎ ((no_line_feed line ≡ true) × (later ≡ [])) → ¬ (IsUtf8 line))
Stands Unread piece left fault t =
    (no_line_feed piece ≡ true) × (no_line_feed (take t.unread left) ≡ true)

-- a piece that is text was taken
pub record TakesPiece (a : Ahead) (s : InputState) (piece : List ℕ) (after : After) (t : InputState)
    : Type 0 where
  pub left : List ℕ
  pub joins : a.bytes ≡ piece ++ left
  pub is_left : t.left ≡ Some (record { bytes = left; fault = a.fault })
  pub text : IsUtf8 piece
  pub unread : t.unread + length piece ≡ s.unread
  pub reads : t.reads ≡ s.reads
  pub at_end : t.at_end ≡ s.at_end
  pub stands : Stands after piece left a.fault t

-- where the source tells what is left, a piece of it was taken, and the line was walked on over it
abbrev pub TakesPieceOn : Progress → List ℕ → InputState → Progress → After → List ℕ → InputState →
    Type 0
TakesPieceOn p old s q after new t =
    (a : Ahead) → s.left ≡ Some a →
    (piece : List ℕ) × TakesPiece a s piece after t × WalksOn p old (chars piece) new q

-- what is left to use falls, or there is room to read more, or something is left that is no text
abbrev pub PieceFalls : InputState → After → InputState → Type 0
PieceFalls s LineEnd t = input_measure t < input_measure s
PieceFalls s InputEnd t = 0 < s.unread → input_measure t < input_measure s
PieceFalls s Broken t = (input_measure t ≤ input_measure s) × (0 < t.unread)
PieceFalls s Unread t = (input_measure t ≤ input_measure s) × (t.unread < 4) × (t.at_end ≡ false)

-- the first physical line of what was left was taken, and is text
pub record TakesTextLine (a : Ahead) (s : InputState) (line : List ℕ) (t : InputState)
    : Type 0 where
  pub some : line ≢ []
  pub text : IsUtf8 line
  pub takes : TakesLine a s line t

-- the line is no comment, where it is the first of its logical line
abbrev pub IsShown : List ℕ → List ℕ → Type 0
IsShown seen line = seen ≡ [] → begins_with hash (skip_leading_whitespace (chars line)) ≡ false

-- what the physical line that stands next makes of a logical line with the text seen, and the text then
abbrev pub LineMakes : LineMode → List ℕ → Ahead → InputState → Taken → List ℕ → InputState → Type 0
LineMakes m seen a s (taken_going n) now t =
    (line : List ℕ) × TakesTextLine a s line t × IsShown seen line
    × (walk m seen (chars line) ≡ going n) × (now ≡ seen ++ chars line)
LineMakes m seen a s taken_ended now t =
    (line : List ℕ) × TakesTextLine a s line t × IsShown seen line
    × (walk m seen (chars line) ≡ ended now)
LineMakes m seen a s taken_comment now t =
    (line : List ℕ) × TakesTextLine a s line t × (seen ≡ [])
    × (begins_with hash (skip_leading_whitespace (chars line)) ≡ true)
LineMakes m seen a s taken_broken now t =
    (line : List ℕ) × (line ≢ []) × ¬ (IsUtf8 line) × TakesLine a s line t

-- a line that was taken, or a final fault in it
abbrev pub TakesLineOn : {A : Type 0} → LineMode → List ℕ → Ahead → InputState →
    Result Taken (Error A) → List ℕ → InputState → Type 0
TakesLineOn m seen a s (Ok made) now t = LineMakes m seen a s made now t
TakesLineOn m seen a s (Err e) now t = IsFinal a s (λ bytes. no_line_feed bytes ≡ true) e t

-- a line that is a logical line by itself was taken; or none is next in what was read, and nothing was used
abbrev pub TakesWhole : List ℕ → InputState → Bool → List ℕ → InputState → Type 0
TakesWhole seen s true now t =
    (input_measure t < input_measure s)
    × ((a : Ahead) → s.left ≡ Some a → LineMakes Outside seen a s taken_ended now t)
TakesWhole seen s false now t =
    (now ≡ seen) × (t ≡ s)
    × ((a : Ahead) → s.left ≡ Some a → (kept rest : List ℕ) →
    ¬ (BeginsWhole (take s.unread a.bytes) kept rest))

-- a line over which such quotes stay open was taken; or none is next in what was read, and nothing was used
abbrev pub TakesOpen : ℕ → List ℕ → InputState → Bool → List ℕ → InputState → Type 0
TakesOpen quote seen s true now t =
    (input_measure t < input_measure s)
    × ((a : Ahead) → s.left ≡ Some a →
    LineMakes (Inside quote) seen a s (taken_going (Inside quote)) now t)
TakesOpen quote seen s false now t =
    (now ≡ seen) × (t ≡ s)
    × ((a : Ahead) → s.left ≡ Some a → (line : List ℕ) →
    ¬ (BeginsOpen quote (take s.unread a.bytes) line))

-- a comment was taken; or none is next in what was read, and nothing was used
abbrev pub TakesComment : InputState → Bool → InputState → Type 0
TakesComment s true t =
    (input_measure t < input_measure s)
    × ((a : Ahead) → s.left ≡ Some a →
    (line : List ℕ) × TakesTextLine a s line t
    × (begins_with hash (skip_leading_whitespace (chars line)) ≡ true))
TakesComment s false t =
    (t ≡ s)
    × ((a : Ahead) → s.left ≡ Some a → (line : List ℕ) →
    ¬ (BeginsComment (take s.unread a.bytes) line))
