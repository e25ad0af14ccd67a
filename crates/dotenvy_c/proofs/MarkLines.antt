-- What comes after the lines of a file, with its byte order mark and without it.
use Rattle.std.proofs.Common.{◌≡◌, ◌∙◌, ◌≤◌, ◌<◌, ◌++◌, ℕ, zero, suc, true, false, List, [], ◌∷◌, refl, sym, ap, arith}
use Rattle.std.proofs.Common.{length, length-append, drop, take, inl, inr}
use Rattle.std.specs.Prelude.{◌==◌, nat_eq}
use Rattle.std.specs.List.{concat, starts_with}
use Rattle.std.proofs.Math.Seq.{drop-nil}
use Rattle.std.proofs.lemmas.Bool.{cases_Bool}
use Rattle.std.proofs.lemmas.List.{nil_from_length, take-append-drop}
use Rattle.dotenvy.specs.Characters.{line_feed}
use Rattle.dotenvy.specs.Marks.{byte_order_mark}
use Rattle.dotenvy.specs.PhysicalLines.{onto_first, physical_lines}
use Rattle.dotenvy_format.proofs.lines.Cuts.{concat-lines}
use Rattle.dotenvy_editor.proofs.FileMarks.{mark_first}
use Rattle.dotenvy_editor.specs.TakenSlices.{SkipsLines}
use Rattle.dotenvy_c.specs.Options.{bytes_asked, has_option}
use Rattle.dotenvy_c.specs.Places.{HasLinesAfter}
use Rattle.dotenvy_c.proofs.Standing.{concat_both}
use Rattle.dotenvy_c.proofs.WholeFits.{asked_fits}

-- a first byte that is no line feed is in the first line
after_first : (c k : ℕ) (bytes : List ℕ) → (c == line_feed) ≡ false →
    drop (suc k) (physical_lines (c ∷ bytes)) ≡ drop (suc k) (physical_lines bytes)
after_first c k bytes other = rw other (at (physical_lines bytes))
  where
    at : (lines : List (List ℕ)) → drop (suc k) (onto_first c lines) ≡ drop (suc k) lines
    at [] = drop-nil k
    at (line ∷ lines) = refl

-- so a byte order mark is, too
after_mark : (k : ℕ) (file : List ℕ) → starts_with nat_eq file byte_order_mark ≡ true →
    drop (suc k) (physical_lines (drop 3 file)) ≡ drop (suc k) (physical_lines file)
after_mark k file is =
    let bytes = drop 3 file in
    sym (ap (λ all. drop (suc k) (physical_lines all)) (mark_first file is)
    ∙ after_first 0xEF k (0xBB ∷ 0xBF ∷ bytes) refl ∙ after_first 0xBB k (0xBF ∷ bytes) refl
    ∙ after_first 0xBF k bytes refl)

-- so after a line the bytes that are asked for have the lines of the file
after_asked : (options k : ℕ) (file : List ℕ) →
    drop (suc k) (physical_lines (bytes_asked options file)) ≡ drop (suc k) (physical_lines file)
after_asked options k file = elim (cases_Bool (has_option options 4)) [
  | inl asks ↦ elim (cases_Bool (starts_with nat_eq file byte_order_mark)) [
    | inl is ↦ rw (asks, is) (after_mark k file is)
    | inr not ↦ rw (asks, not) refl
  ]
  | inr none ↦ rw none refl
]

-- bytes that are no longer than what comes after a line of them are the same
no_shorter : (bytes rest : List ℕ) (k : ℕ) → physical_lines rest ≡ drop k (physical_lines bytes) →
    length bytes ≤ length rest → rest ≡ bytes
no_shorter bytes rest k lines short =
    let all = physical_lines bytes in
    let left : concat (drop k all) ≡ rest = ap concat (sym lines) ∙ concat-lines rest in
    let joined : concat (take k all) ++ concat (drop k all) ≡ bytes =
    sym (concat_both (take k all) (drop k all)) ∙ ap concat (take-append-drop k all) ∙ concat-lines bytes in
    let whole : concat (take k all) ++ rest ≡ bytes = rw left at joined in
    let total = ap length whole in
    let none : concat (take k all) ≡ [] =
    nil_from_length (concat (take k all)) (omega (arith, short, total, length-append (concat (take k all)) rest)) in
    rw none at whole

module _ {bytes rest : List ℕ} (options : ℕ) (file : List ℕ) (is : bytes ≡ bytes_asked options file) where
  -- what is left of the file after some lines is so of the bytes that are asked for, if it is shorter
  pub shorter_after : (count : ℕ) → SkipsLines file count rest → length rest < length bytes →
      HasLinesAfter bytes count rest
  shorter_after zero skips short =
      let whole : rest ≡ file = sym (concat-lines rest) ∙ ap concat skips.lines ∙ concat-lines file in
      let size = ap length whole in
      let asked = ap length is in
      absurd (omega (arith, size, asked, asked_fits options file, short))
  shorter_after (suc k) skips short =
      skips.lines ∙ sym (after_asked options k file) ∙ ap (λ cs. drop (suc k) (physical_lines cs)) (sym is)

  -- else all bytes that are asked for are
  pub all_after : (count : ℕ) → SkipsLines file count rest → length bytes ≤ length rest →
      HasLinesAfter bytes count bytes
  all_after zero skips long = refl
  all_after (suc k) skips long =
      let lines : physical_lines rest ≡ drop (suc k) (physical_lines bytes) =
      skips.lines ∙ sym (after_asked options k file) ∙ ap (λ cs. drop (suc k) (physical_lines cs)) (sym is) in
      let same = no_shorter bytes rest (suc k) lines long in sym (ap physical_lines same) ∙ lines
