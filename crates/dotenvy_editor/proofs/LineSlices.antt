-- Bytes that are cut after whole lines, and the slice that a splitter has taken.
use Rattle.std.proofs.Common.{◌≡◌, ◌≢◌, ℕ, ◌+◌, ◌≤◌, true, List, [], ◌∷◌, ◌++◌, length, drop, take}
use Rattle.std.proofs.Common.{Option, Some, None, refl, sym, ap, ◌∙◌, arith, inl, inr, append_assoc, append-nil}
use Rattle.std.proofs.Common.{length-append, length-drop}
use Rattle.std.specs.Prelude.{◌-◌, MatchOption}
use Rattle.std.specs.List.{concat}
use Rattle.std.proofs.lemmas.Bool.Decides.{nat_tests}
use Rattle.std.proofs.Common.{subst}
use Rattle.std.proofs.Math.Seq.{drop-append_seam}
use Rattle.std.proofs.lemmas.List.{append_cancel_right, drop-drop, length-map, take-append-drop, take_all}
use Rattle.memchr.specs.Find.{IsFirstByte, is_byte}
use Rattle.dotenvy.specs.Input.{InputState, ReadsFit}
use Rattle.dotenvy.specs.Characters.{line_feed}
use Rattle.dotenvy.specs.PhysicalLines.{physical_lines, line_text, line_texts, no_line_feed, is_whole_line}
use Rattle.dotenvy.specs.LogicalLine.{Logical, Skip, HasText, StaysOpen, Broken, IsNext}
use Rattle.dotenvy_lines.specs.inside.NextLine.{TakesNext}
use Rattle.dotenvy_format.proofs.lines.Cuts.{lines-append, concat-lines}
use Rattle.dotenvy_format.proofs.lines.NextLine.{Lines, whole_line, last_line, broken_within}
use Rattle.dotenvy_format.proofs.lines.EntriesOnce.{one_last, next_positive, some_length}
use Rattle.dotenvy_lines.proofs.Inputs.{found_line}
use Rattle.dotenvy_editor.specs.Slices.{AreWholeLines, IsNextSlice, line_count}
use Rattle.dotenvy_editor.specs.TakenSlices.{EndsLine, IsLineEnd, SkipsLines}

-- a whole line ends with its line feed
whole_ends : (line : List ℕ) → is_whole_line line ≡ true → (front : List ℕ) × (line ≡ front ++ line_feed ∷ [])
whole_ends [] h = absurd (cc)
whole_ends (c ∷ []) h = ([], let e : c ≡ line_feed = grind (arith, nat_tests) in rw e refl)
whole_ends (c ∷ d ∷ line) h =
    let k : is_whole_line (d ∷ line) ≡ true = grind (arith, nat_tests) in
    let (front, is) = whole_ends (d ∷ line) k in (c ∷ front, ap (λ cs. c ∷ cs) is)

-- bytes without a line feed are one line, or none
no_lines : (bytes : List ℕ) → no_line_feed bytes ≡ true → [] ≡ drop 1 (physical_lines bytes)
no_lines [] h = refl
no_lines (c ∷ bytes) h = rw (last_line (c ∷ bytes) (one_last c bytes h)) refl

-- all bytes are left after their first line, which ends at the line feed that was found
pub first_line : (bytes : List ℕ) (found : Option ℕ) → IsFirstByte (is_byte 10) bytes found →
    MatchOption found (SkipsLines bytes 1 []) (λ n. SkipsLines bytes 1 (drop (n + 1) bytes))
first_line bytes None is = record {
  front = bytes;
  spelled = sym (append-nil bytes);
  is_end = inr refl;
  lines = no_lines bytes (found_line bytes None is);
}
first_line bytes (Some n) is =
    let line = found_line bytes (Some n) is in
    let joined = take-append-drop (n + 1) bytes in record {
      front = take (n + 1) bytes;
      spelled = sym joined;
      is_end = inl (inr (whole_ends (take (n + 1) bytes) line.1));
      lines = ap (drop 1) (sym (whole_line (take (n + 1) bytes) (drop
          (n + 1) bytes) line.1) ∙ ap physical_lines joined);
    }

-- rows of whole lines that end are so joined
ends_both : (xs ys : List ℕ) → EndsLine xs → EndsLine ys → EndsLine (xs ++ ys)
ends_both xs ys (inl e) b = rw e b
ends_both xs ys (inr a) (inl e) = inr (rw (e, append-nil xs) a)
ends_both xs ys (inr a) (inr (front, is)) = inr (xs ++ front, rw (is, append_assoc) refl)

-- two rows of whole lines, one after the other
pub end_then : (xs ys rest : List ℕ) → IsLineEnd xs (ys ++ rest) → IsLineEnd ys rest → IsLineEnd (xs ++ ys) rest
end_then xs ys rest a (inr none) = inr none
end_then xs ys rest (inl a) (inl b) = inl (ends_both xs ys a b)
end_then xs ys [] (inr none) (inl b) = inr refl
end_then xs [] (c ∷ rest) (inr none) (inl b) = absurd (cc)
end_then xs (d ∷ ys) (c ∷ rest) (inr none) (inl b) = absurd (cc)

-- lines that are skipped, and more after them
pub skips_then : {bytes middle rest : List ℕ} {j k : ℕ} → SkipsLines bytes j middle → SkipsLines middle k rest →
    SkipsLines bytes (j + k) rest
skips_then {bytes} {middle} {rest} {j} {k} a b = record {
  front = a.front ++ b.front;
  spelled = a.spelled ∙ ap (λ cs. a.front ++ cs) b.spelled ∙ sym (append_assoc a.front b.front rest);
  is_end = end_then a.front b.front rest (rw (← b.spelled) a.is_end) b.is_end;
  lines = b.lines ∙ ap (drop k) a.lines ∙ drop-drop k j (physical_lines bytes);
}

-- bytes are whole lines before a rest at which lines end
pub whole_before : (bytes rest : List ℕ) → IsLineEnd bytes rest → AreWholeLines bytes rest
whole_before bytes rest (inr none) = rw (none, append-nil bytes) (sym (append-nil (physical_lines bytes)))
whole_before bytes rest (inl (inl none)) = rw none refl
whole_before bytes rest (inl (inr (front, is))) = rw is (lines-append front rest)

-- the next logical line has no more physical lines than there are
pub next_within : (lines : Lines) (k : ℕ) (o : Logical) → lines ≢ [] → IsNext lines k o → k ≤ length lines
next_within lines k Skip some is = let n = some_length lines some in omega (arith, is.1)
next_within lines k (HasText text) some is = is.1.within
next_within lines k (StaysOpen text n) some is = omega (arith, is.1)
next_within lines k Broken some is = broken_within lines k is.1

-- the slice that was taken: its bytes and those after it
pub record Taken (bytes slice rest : List ℕ) (s : InputState) (next : Logical) (count : ℕ)
    (t : InputState) : Type 0 where
  pub is_next : IsNextSlice slice next rest
  pub count_is : line_count slice ≡ count
  pub is_left : t.left ≡ Some (record { bytes = rest; fault = None })
  pub is_end : IsLineEnd slice rest
  pub reads : ReadsFit (record { bytes = bytes; fault = None }) s (record { bytes = rest; fault = None }) t

-- where the physical lines of a logical line were skipped, the bytes before the rest are its slice
pub taken_slice : {bytes slice rest : List ℕ} {s t : InputState} {next : Logical} {count skipped : ℕ} →
    TakesNext (record { bytes = bytes; fault = None }) s next count t → bytes ≡ slice ++ rest →
    SkipsLines bytes skipped rest → skipped ≡ count → Taken bytes slice rest s next count t
taken_slice {bytes} {slice} {rest} {s} {t} {next} {count} {skipped} k e skips same =
    let lines : physical_lines rest ≡ physical_lines k.left = skips.lines ∙ rw (← same) at (sym k.rest) in
    let left : rest ≡ k.left = sym (concat-lines rest) ∙ ap concat lines ∙ concat-lines k.left in
    let front : skips.front ≡ slice = append_cancel_right skips.front slice rest (sym skips.spelled ∙ e) in
    let is_end : IsLineEnd slice rest = rw front at skips.is_end in
    let whole = whole_before slice rest is_end in
    let within = next_within (line_texts bytes) count next k.some k.is_next in
    let positive = next_positive (line_texts bytes) count next k.some k.is_next in
    let total : length (physical_lines bytes) ≡ line_count slice + length (physical_lines rest) =
    ap length (ap physical_lines e ∙ whole) ∙ length-append (physical_lines slice) (physical_lines rest) in
    let later = ap length skips.lines in
    let count_is : line_count slice ≡ count =
    omega (
      arith,
      total,
      later,
      same,
      within,
      length-drop skipped (physical_lines bytes),
      length-map (physical_lines bytes) line_text,
    ) in record {
      is_next = (
        λ none. (let no = ap line_count none in omega (arith, no, count_is, positive)),
        whole,
        rw (count_is, ← e) k.is_next,
      );
      count_is = count_is;
      is_left = rw left k.moves.is_left;
      is_end = is_end;
      reads = rw left k.moves.reads;
    }

-- bytes from a place on
pub slice_end : (k : ℕ) (xs : List ℕ) → take (length xs - k) (drop k xs) ≡ drop k xs
slice_end k xs = take_all (length xs - k) (drop k xs) (omega (arith, length-drop k xs))

-- the same lines are skipped
pub skips_so : {bytes rest : List ℕ} {j : ℕ} (k : ℕ) → SkipsLines bytes j rest → j ≡ k → SkipsLines bytes k rest
skips_so {bytes} {rest} k skips e = let P : ℕ → Type 0 = λ n. SkipsLines bytes n rest in subst P e skips

-- what is left after a front, by its length
pub left_behind : (bytes front rest : List ℕ) → bytes ≡ front ++ rest → drop (length bytes - length rest) bytes ≡ rest
left_behind bytes front rest is =
    let total = ap length is ∙ length-append front rest in
    let place : length bytes - length rest ≡ length front = omega (arith, total) in
    rw (place, is) (drop-append_seam front rest)
