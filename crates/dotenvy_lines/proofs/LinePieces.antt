-- The pieces of a physical line: how far they are text, and what stands behind that.
use Rattle.std.proofs.Common.{◌≡◌, ◌≢◌, ℕ, ◌+◌, ◌-◌, ◌≤◌, Bool, true, false, cond, List, []}
use Rattle.std.proofs.Common.{◌∷◌, ◌++◌, length, take, drop, refl, sym, ◌∙◌, ap}
use Rattle.std.proofs.Common.{append_assoc, append-nil, length-append, length-drop, Some, inl, inr}
use Rattle.std.proofs.Common.{arith, Bor}
use Rattle.std.specs.Prelude.{◌==◌, ◌||◌, nat_le, MatchBool, IsUtf8, encode_utf8_all}
use Rattle.std.specs.Prelude.{MatchResult, Result, Ok, Err}
use Rattle.std.specs.Str.{chars, IsValidUpTo}
use Rattle.std.specs.Result.{result_unwrap_or}
use Rattle.std.proofs.Math.Utf8.{encode}
use Rattle.std.proofs.Math.Seq.{take-append_seam, take-append-add, drop-append_seam}
use Rattle.std.proofs.lemmas.Bool.{false_from_ne_true}
use Rattle.std.proofs.lemmas.Bool.Decides.{nat_tests}
use Rattle.std.proofs.lemmas.List.{take-append-drop, take-append-le, take_all, take_at, length-take-le}
use Rattle.std.proofs.lemmas.Str.{encodes-chars, length-encode, len_utf8_bounds, IsUtf8-append}
use Rattle.std.proofs.lemmas.Str.{IsUtf8-drop, IsCharBoundary-from_take}
use Rattle.dotenvy_lines.specs.declared.physical_line.After.TheVariants.{LineEnd, InputEnd, Broken, Unread}
use Rattle.dotenvy_format.specs.PhysicalLines.{is_whole_line, no_line_feed}
use Rattle.dotenvy_base.specs.Source.{Ahead}
use Rattle.dotenvy_lines.specs.Input.{InputState}
use Rattle.dotenvy_lines.specs.inside.InputSteps.{IsAllRead, IsLinePiece, used_up}
use Rattle.dotenvy_lines.specs.inside.TakenLine.{IsTextFront, PieceFalls, Stands, TakesPiece, after_text}
use Rattle.dotenvy_base.proofs.Basics.{nil_of, more_some}
use Rattle.dotenvy_format.proofs.lines.LineTexts.{char_text}
use Rattle.dotenvy_format.proofs.lines.EntriesOnce.{ten}
use Rattle.dotenvy_lines.proofs.Inputs.{none_parts}

-- the front of a text up to the first byte that begins no character is the longest that is text
pub front-valid : (bytes : List ℕ) (n : ℕ) → IsValidUpTo bytes n → IsTextFront bytes (take n bytes)
front-valid bytes n valid =
    let long = length-take-le n bytes (omega (arith, valid.short)) in record {
      text = valid.front;
      within = omega (arith, valid.short);
      is_front = rw long;
      longest = λ m more within. valid.longest m (omega arith);
    }

-- bytes that are text are read as that text
pub read-text : {E : Type 0} (P : E → Type 0) (r : Result (Bor (List ℕ)) E) (other : Bor (List ℕ)) (bytes : List ℕ) →
    MatchResult r (λ s. (s.now ≡ bytes) × IsUtf8 bytes) (λ e. ¬ (IsUtf8 bytes) × P e) → IsUtf8 bytes →
    (result_unwrap_or r other).now ≡ bytes
read-text P (Ok s) other bytes h text = h.0
read-text P (Err e) other bytes h text = absurd (h.0 text)

-- behind a text, what is text with it is text
pub text-behind : (front rest : List ℕ) → IsUtf8 front → IsUtf8 (front ++ rest) → IsUtf8 rest
text-behind front rest text both =
    let seam = IsCharBoundary-from_take (front ++ rest) (length front) both (omega (arith, length-append front rest))
    (rw take-append_seam text) in
    rw drop-append_seam at (IsUtf8-drop (front ++ rest) (length front) both seam)

-- Lines and their fronts.
-- bytes that are not none have a length of one at least
long : (xs : List ℕ) → xs ≢ [] → 1 ≤ length xs
long [] h = absurd (h refl)
long (x ∷ xs) h = omega arith

-- a whole line has a line feed
whole-none : (xs : List ℕ) → is_whole_line xs ≡ true → no_line_feed xs ≡ true → ⊥
whole-none [] h k = cc
whole-none (x ∷ xs) h k = let later = whole-none xs in grind (arith, later)

-- of a whole line that is cut before its end the front has no line feed, and what is left is a whole line
whole_parts : (xs ys : List ℕ) → ys ≢ [] → is_whole_line (xs ++ ys) ≡ true →
    (no_line_feed xs ≡ true) × (is_whole_line ys ≡ true)
whole_parts [] ys some h = (refl, h)
whole_parts (x ∷ xs) ys some h =
    let later = whole_parts xs ys some in
    let size = long ys some in
    grind (arith, later, length-append xs ys)

-- two whole lines at the front of the same bytes are one
one-whole : (xs ys more later : List ℕ) → is_whole_line xs ≡ true → is_whole_line ys ≡ true →
    xs ++ more ≡ ys ++ later → xs ≡ ys
one-whole [] ys more later h k e = cc
one-whole (x ∷ xs) [] more later h k e = cc
one-whole (x ∷ xs) (y ∷ ys) more later h k e = let rest = one-whole xs ys more later in grind (arith, rest)

-- a text without a line feed is one of characters without one
pub none-chars : (line : List ℕ) → IsUtf8 line → no_line_feed line ≡ true → no_line_feed (chars line) ≡ true
none-chars line text h = spelled_none (chars line) (rw (encodes-chars line text) h)
  where
    spelled_none : (cs : List ℕ) → no_line_feed (encode_utf8_all cs) ≡ true → no_line_feed cs ≡ true
    spelled_none [] h = refl
    spelled_none (c ∷ cs) h =
        let other = false_from_ne_true (c == 10) (λ e. let f = rw (ten c (encode_utf8_all cs) e) at h in cc) in
        rw other (spelled_none cs (none_parts (encode c) (encode_utf8_all cs) h).1)

-- a whole line has something
pub some_line : (line : List ℕ) → is_whole_line line ≡ true → line ≢ []
some_line line h = λ e. cc

-- the bytes of a piece: those that are text, and the rest, with more bytes behind
record Split (a : Ahead) (piece front rest more : List ℕ) : Type 0 where
  text : IsTextFront piece front
  cut : piece ≡ front ++ rest
  all : a.bytes ≡ front ++ (rest ++ more)
  size : length piece ≡ length front + length rest
  total : length a.bytes ≡ length front + (length rest + length more)

module _ {a : Ahead} {piece front rest more : List ℕ} (p : Split a piece front rest more) where
  -- what is left of a piece behind its longest front that is text is no text
  whole_breaks : rest ≢ [] → ¬ (IsUtf8 rest)
  whole_breaks some text =
      p.text.longest (length piece) (omega (arith, p.size, long rest some)) (omega arith)
      (rw (take_all (length piece) piece (omega arith), p.cut) (IsUtf8-append front rest p.text.text text))

  -- what follows the longest front that is text, four bytes at least, is no text with whatever follows it
  rest_breaks : (line later : List ℕ) → 4 ≤ length rest → rest ++ more ≡ line ++ later → line ≢ [] → ¬ (IsUtf8 line)
  rest_breaks line later four same some text =
      at (chars line) (encodes-chars line text)
    where
      at : (cs : List ℕ) → encode_utf8_all cs ≡ line → ⊥
      at [] e = some (sym e)
      at (c ∷ cs) e =
          let bounds = len_utf8_bounds c in
          let few = length-encode c in
          let begins : take (length (encode c)) rest ≡ encode c =
          sym (take-append-le (length (encode c)) rest more (omega arith))
          ∙ rw (same, ← e, append_assoc) (take-append_seam (encode c) (encode_utf8_all cs ++ later)) in
          p.text.longest (length front + length (encode c)) (omega arith) (omega (arith, p.size))
          (rw (p.cut, take-append-add, begins)
          (IsUtf8-append front (encode c) p.text.text (char_text line (encode_utf8_all cs) c text (sym e))))

  -- with the text of a piece used up, what stands behind it is what the tests of the piece and of its rest say
  stands_behind : {s : InputState} {whole : Bool} → IsLinePiece s piece whole →
      (s.at_end ≡ true → IsAllRead a s.unread) →
      Stands (after_text (length rest) whole s.at_end) front (rest ++ more) a.fault (used_up (length front) s)
  stands_behind {s = s} {whole = whole} is all =
      at (nat_le 1 (length rest)) whole s.at_end (nat_le 4 (length rest)) (refl, refl) is.is_line refl
    where
      empty : nat_le 1 (length rest) ≡ false → rest ≡ []
      empty none = nil_of rest (grind (arith, nat_tests))

      only : nat_le 1 (length rest) ≡ false → piece ≡ front
      only none = rw (p.cut, empty none, append-nil)

      spent : s.at_end ≡ true → length piece ≡ s.unread → more ≡ []
      spent ended line = nil_of more (omega (arith, (all ended).0, p.size, p.total))

      some : nat_le 1 (length rest) ≡ true → rest ≢ []
      some test = λ e. let empty = ap length e in grind (arith, nat_tests)

      parts : no_line_feed piece ≡ true → (no_line_feed front ≡ true) × (no_line_feed rest ≡ true)
      parts none = none_parts front rest (rw p.cut at none)

      unread : (no_line_feed piece ≡ true) × (length piece ≡ s.unread) →
          (no_line_feed front ≡ true) × (no_line_feed (take (s.unread - length front) (rest ++ more)) ≡ true)
      unread line =
          let none = parts line.0 in
          (none.0, rw (take_at rest more (s.unread - length front) (omega (arith, line.1, p.size))) none.1)

      at : (some w e four : Bool) → (nat_le 1 (length rest) ≡ some) × (nat_le 4 (length rest) ≡ four) →
          MatchBool w (is_whole_line piece ≡ true) ((no_line_feed piece ≡ true) × (length piece ≡ s.unread)) →
          s.at_end ≡ e →
          Stands (cond some (cond (w || (e || four)) Broken Unread) (cond w LineEnd (cond e InputEnd Unread))) front
          (rest ++ more) a.fault (used_up (length front) s)
      at false true e four (none, few) line ended = rw (only none) at line
      at false false true four (none, few) line ended =
          let size = ap length (only none) in
          (rw (only none) at line.0, rw (empty none) (spent ended line.1), (all ended).1, ended, omega (arith, line.1))
      at true true e four (test, few) line ended =
          let k = whole_parts front rest (some test) (rw p.cut at line) in (
            k.0,
            λ l later same ends text. elim ends [
              | inl whole ↦ whole_breaks (some test) (rw (one-whole rest l more later k.1 whole same) text)
              | inr last ↦
                  whole-none rest k.1 (none_parts rest more (rw (same, last.1, append-nil) last.0)).0
            ],
          )
      at true false true four (test, few) line ended =
          let none = parts line.0 in (
            none.0,
            λ l later same ends text.
                let rest_is = rw (spent ended line.1, append-nil) at same in
                elim ends [
                  | inl whole ↦ whole-none l whole (none_parts l later (rw rest_is at none.1)).0
                  | inr last ↦ whole_breaks (some test) (rw (rest_is, last.1, append-nil) text)
                ],
          )
      at true false false true (test, few) line ended = (
        (parts line.0).0,
        λ l later same ends text.
            rest_breaks l later (grind (arith, nat_tests)) same (elim ends [
              | inl whole ↦ some_line l whole
              | inr last ↦ λ none. more_some rest more (some test) (rw (same, last.1, append-nil) none)
            ]) text,
      )
      at _ _ _ _ (test, few) line ended = unread line

-- with its text used up, a piece was taken as far as it is text, and what stands behind that is told
pub piece-taken : {a : Ahead} {s t : InputState} {piece front : List ℕ} {whole : Bool} → s.left ≡ Some a →
    IsLinePiece s piece whole → IsTextFront piece front → (s.at_end ≡ true → IsAllRead a s.unread) →
    t ≡ used_up (length front) s → TakesPiece a s front (after_text (length piece - length front) whole s.at_end) t
piece-taken {a = a} {piece = piece} {front = front} left is text all after =
    let rest = drop (length front) piece in
    let more = drop (length piece) a.bytes in
    let cut : piece ≡ front ++ rest = cc (text.is_front, take-append-drop (length front) piece) in
    let bytes : a.bytes ≡ front ++ (rest ++ more) =
    cc (is.told a left, cut, take-append-drop (length piece) a.bytes, append_assoc front rest more) in
    let remain : drop (length front) a.bytes ≡ rest ++ more = cc (bytes, drop-append_seam front (rest ++ more)) in
    rw (after, ← length-drop (length front) piece) (record {
      left = rest ++ more;
      joins = bytes;
      is_left = rw (left, remain);
      text = text.text;
      unread = omega (arith, is.within, text.within);
      reads = refl;
      at_end = refl;
      stands = stands_behind (record {
        text = text;
        cut = cut;
        all = bytes;
        size = ap length cut ∙ length-append front rest;
        total = simp length-append at (ap length bytes);
      }) is all;
    })

-- with the text of a piece used up, what falls is what falls by what stands behind that text
pub piece-falls : {s t : InputState} {piece front : List ℕ} {whole : Bool} → IsLinePiece s piece whole →
    IsTextFront piece front → t ≡ used_up (length front) s →
    PieceFalls s (after_text (length piece - length front) whole s.at_end) t
piece-falls {s = s} {piece = piece} {front = front} {whole = whole} is text after = rw after
    (at (nat_le 1 (length piece - length front)) whole s.at_end (nat_le 4 (length piece - length front)) (refl, refl)
    is.is_line refl)
  where
    at : (some w e four : Bool) →
        (nat_le 1 (length piece - length front) ≡ some) × (nat_le 4 (length piece - length front) ≡ four) →
        MatchBool w (is_whole_line piece ≡ true) ((no_line_feed piece ≡ true) × (length piece ≡ s.unread)) →
        s.at_end ≡ e →
        PieceFalls s (cond some (cond (w || (e || four)) Broken Unread) (cond w LineEnd (cond e InputEnd Unread)))
        (used_up (length front) s)
    at false true e four (few, most) line ended =
        let some = long piece (some_line piece line) in grind (arith, nat_tests, is.within, text.within)
    at false false true four (few, most) line ended = λ some. grind (arith, nat_tests, text.within, line.1)
    at false false false four (few, most) line ended =
        (omega arith, grind (arith, nat_tests, text.within, line.1), ended)
    at true false false false (few, most) line ended =
        (omega arith, grind (arith, nat_tests, text.within, line.1), ended)
    at _ _ _ _ (few, most) line ended = (omega arith, grind (arith, nat_tests, is.within))
