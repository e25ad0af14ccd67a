-- A line that is read whole: using it up with its line feed takes it.
use Rattle.std.proofs.Common.{◌≡◌, ◌≢◌, ℕ, ◌+◌, ◌≤◌, ◌<◌, sym, Bool, true, List, [], ◌∷◌, ◌++◌, length, take, drop, refl, ap, ◌∙◌}
use Rattle.std.proofs.Common.{append_assoc, arith, inl, length-append, Some}
use Rattle.std.specs.Prelude.{IsUtf8}
use Rattle.std.specs.Str.{chars, skip_leading_whitespace}
use Rattle.std.proofs.Math.Utf8.{encode}
use Rattle.std.proofs.Math.Seq.{drop-append_seam}
use Rattle.std.proofs.lemmas.List.{take-append-drop}
use Rattle.std.proofs.lemmas.Str.{IsUtf8-append}
use Rattle.dotenvy_format.specs.declared.walk.LineMode.TheVariants.{Outside, Inside}
use Rattle.dotenvy_format.specs.Characters.{begins_with, hash, is_quote, line_feed}
use Rattle.dotenvy_format.specs.LogicalLine.{without_carriage_return}
use Rattle.dotenvy_format.specs.PhysicalLines.{no_line_feed}
use Rattle.dotenvy_format.specs.inside.Slices.{BeginsLine}
use Rattle.dotenvy_format.specs.inside.LineEnd.{BeginsOpen, BeginsWhole}
use Rattle.dotenvy_format.specs.inside.Walk.{BeginsComment}
use Rattle.dotenvy_format.proofs.lines.WholeLines.{whole_begins, whole_is_shown, whole_line_ends, whole_line_none}
use Rattle.dotenvy_format.proofs.lines.WholeLines.{whole_text}
use Rattle.dotenvy_format.proofs.lines.OpenLines.{open_begins, open_line_goes, open_line_text, open_none}
use Rattle.dotenvy_format.proofs.lines.CommentLines.{comment_none, comment_seen, comment_text}
use Rattle.dotenvy_base.specs.Source.{Ahead}
use Rattle.dotenvy_lines.specs.declared.physical_line.Taken.TheVariants.{Ended as taken_ended}
use Rattle.dotenvy_lines.specs.declared.physical_line.Taken.TheVariants.{Going as taken_going}
use Rattle.dotenvy_lines.specs.Input.{InputState, input_measure}
use Rattle.dotenvy_lines.specs.inside.InputSteps.{used_up}
use Rattle.dotenvy_lines.specs.inside.TakenLine.{LineMakes, TakesTextLine}
use Rattle.dotenvy_lines.proofs.Inputs.{moves_piece, whole_after}
use Rattle.dotenvy_lines.proofs.LinePieces.{some_line}

-- a line feed alone is text
line_feed_text : IsUtf8 (line_feed ∷ [])
unfolding encode
line_feed_text = (line_feed ∷ [], (refl, refl))

-- a line and its line feed are no more than the bytes that begin with them
pub read_whole : {passes : ℕ → Bool} {bytes line : List ℕ} → BeginsLine passes bytes line
    → length line + 1 ≤ length bytes
read_whole {line = line} is = rw is.begins (omega (arith, length-append line (line_feed ∷ is.later)))

-- with them used up, less is left to use
pub whole_falls : {passes : ℕ → Bool} {unread line : List ℕ} (s : InputState) → length unread ≡ s.unread
    → BeginsLine passes unread line → input_measure (used_up (length line + 1) s) < input_measure s
whole_falls s len is = omega (arith, len, read_whole is)

-- the unread bytes begin with a line, which is text
pub record Unread (passes : ℕ → Bool) (a : Ahead) (s : InputState) (unread line : List ℕ) : Type 0 where
  pub told : unread ≡ take s.unread a.bytes
  pub len : length unread ≡ s.unread
  pub left : s.left ≡ Some a
  pub text : IsUtf8 line
  pub none : no_line_feed line ≡ true
  pub begins : BeginsLine passes unread line

-- with the line and its line feed used up, it was taken
pub whole_taken : {passes : ℕ → Bool} {a : Ahead} {s : InputState} {unread line : List ℕ}
    → Unread passes a s unread line
    → TakesTextLine a s (line ++ line_feed ∷ []) (used_up (length line + 1) s)
whole_taken {a = a} {s = s} {line = line} is =
    let whole = line ++ line_feed ∷ [] in
    let left = is.begins.later ++ drop s.unread a.bytes in
    let size : length whole ≡ length line + 1 = omega (arith, length-append line (line_feed ∷ [])) in
    let joins : a.bytes ≡ whole ++ left =
    cc (
      is.told,
      is.begins.begins,
      take-append-drop s.unread a.bytes,
      append_assoc line (line_feed ∷ []) left,
      append_assoc line (line_feed ∷ is.begins.later) (drop s.unread a.bytes),
    ) in
    let remain : drop (length line + 1) a.bytes ≡ left =
    ap (drop (length line + 1)) joins ∙ rw (← size) (drop-append_seam whole left) in
    let is_whole = whole_after line (line_feed ∷ []) is.none refl in
    record {
      some = some_line whole is_whole;
      text = IsUtf8-append line (line_feed ∷ []) is.text line_feed_text;
      takes = record {
        left = left;
        moves =
            moves_piece joins (rw (is.left, remain) refl) (omega (arith, size, is.len, read_whole is.begins)) refl refl;
        is_line = inl is_whole;
      };
    }

-- a line that is a logical line by itself ended it
pub closed_taken : {a : Ahead} {s : InputState} {unread kept rest : List ℕ} (seen : List ℕ)
    → unread ≡ take s.unread a.bytes → length unread ≡ s.unread → s.left ≡ Some a → BeginsWhole unread kept rest
    → LineMakes Outside seen a s taken_ended (without_carriage_return (seen ++ chars kept))
    (used_up (length kept + length rest + 1) s)
closed_taken {kept = kept} {rest = rest} seen told len left is = rw (← length-append kept rest) (
  (kept ++ rest) ++ line_feed ∷ [],
  whole_taken (record {
    told = told;
    len = len;
    left = left;
    text = whole_text is;
    none = whole_line_none is;
    begins = whole_begins is;
  }),
  λ _. whole_is_shown is,
  whole_line_ends seen is,
)

-- it is no more than the bytes that begin with it
pub closed_within : {unread kept rest : List ℕ} → BeginsWhole unread kept rest
    → length kept + length rest + 1 ≤ length unread
closed_within {kept = kept} {rest = rest} is = rw (← length-append kept rest) (read_whole (whole_begins is))

-- with it used up, less is left to use
pub closed_falls : {unread kept rest : List ℕ} (s : InputState) → length unread ≡ s.unread
    → BeginsWhole unread kept rest
    → input_measure (used_up (length kept + length rest + 1) s) < input_measure s
closed_falls {kept = kept} {rest = rest} s len is =
    rw (← length-append kept rest) (whole_falls s len (whole_begins is))

-- so was a line over which quotes stay open
pub open_taken : {a : Ahead} {s : InputState} {unread line : List ℕ} {quote : ℕ} (seen : List ℕ)
    → is_quote quote ≡ true → seen ≢ [] → unread ≡ take s.unread a.bytes → length unread ≡ s.unread
    → s.left ≡ Some a → BeginsOpen quote unread line
    → LineMakes (Inside quote) seen a s (taken_going (Inside quote)) (seen ++ (chars line ++ line_feed ∷ []))
    (used_up (length line + 1) s)
open_taken {line = line} seen quoted some told len left is = (
  line ++ line_feed ∷ [],
  whole_taken (record {
    told = told;
    len = len;
    left = left;
    text = is.text;
    none = open_none is;
    begins = open_begins is;
  }),
  λ none. absurd (some none),
  open_line_goes seen quoted is,
  ap (λ line. seen ++ line) (sym (open_line_text is)),
)

-- it is no more than the bytes that begin with it
pub open_within : {quote : ℕ} {unread line : List ℕ} → BeginsOpen quote unread line
    → length line + 1 ≤ length unread
open_within is = read_whole (open_begins is)

-- a comment was taken
pub comment_taken : {a : Ahead} {s : InputState} {unread line : List ℕ} → unread ≡ take s.unread a.bytes
    → length unread ≡ s.unread → s.left ≡ Some a → BeginsComment unread line
    → (all : List ℕ) × TakesTextLine a s all (used_up (length line + 1) s)
    × (begins_with hash (skip_leading_whitespace (chars all)) ≡ true)
comment_taken {line = line} told len left is = (
  line ++ line_feed ∷ [],
  whole_taken (record {
    told = told;
    len = len;
    left = left;
    text = comment_text is;
    none = comment_none is;
    begins = is.1;
  }),
  comment_seen is,
)
