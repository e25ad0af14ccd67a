-- Bytes have one list of slices.
use Rattle.std.proofs.Common.{◌≡◌, ◌≢◌, ℕ, zero, suc, ◌≤◌, ◌<◌, Bool, true, false, List, [], ◌∷◌, ◌++◌}
use Rattle.std.proofs.Common.{refl, sym, ◌∙◌, ap, length, drop, take, cond, inl, inr, arith}
use Rattle.std.specs.Prelude.{◌==◌}
use Rattle.std.specs.List.{concat}
use Rattle.std.proofs.Math.Seq.{drop-append_seam, take-append_seam}
use Rattle.std.proofs.lemmas.Bool.{cases_Bool}
use Rattle.dotenvy_format.specs.Characters.{line_feed}
use Rattle.dotenvy_format.specs.PhysicalLines.{line_texts, onto_first, physical_lines}
use Rattle.dotenvy_format.specs.LogicalLine.{Broken, HasText, IsNext, Logical, Skip, StaysOpen}
use Rattle.dotenvy_format.specs.Entries.{AreLogicalLines}
use Rattle.dotenvy_format.proofs.lines.Cuts.{concat-lines, cut_step, lines_some}
use Rattle.dotenvy_format.proofs.lines.NextLine.{Lines, broken_within, one_next}
use Rattle.dotenvy_format.proofs.lines.EntriesOnce.{cut_line_texts, lines_within, next_positive, some_length}
use Rattle.dotenvy_editor.specs.Slices.{AreSlices, AreWholeLines, IsNextSlice, Slice, line_count}
use Rattle.dotenvy_editor.proofs.SlicesAlone.{texts_count, texts_join, texts_some}
use Rattle.dotenvy_editor.proofs.SlicesChained.{are_some, same_rest}

-- The first lines.
-- with a character in front there are as many lines
onto_count : (c : ℕ) (lines : List (List ℕ)) → lines ≢ [] → length (onto_first c lines) ≡ length lines
onto_count c [] some = absurd (some refl)
onto_count c (line ∷ lines) some = refl

-- where there is a line, it isn't the empty list
counted_some : (lines : List (List ℕ)) (k : ℕ) → length lines ≡ suc k → lines ≢ []
counted_some lines k e none = let f = ap length none in omega (arith, e, f)

-- bytes cut after so many lines
pub record IsCutBehind (count : ℕ) (bytes : List ℕ) : Type 0 where
  pub front : List ℕ
  pub later : List ℕ
  pub joins : bytes ≡ front ++ later
  pub whole : AreWholeLines front later
  pub counts : line_count front ≡ count

-- with a character in front that is no line feed they are cut after as many
cut_onto : (c : ℕ) (k : ℕ) (bytes : List ℕ) → (c == line_feed) ≡ false → IsCutBehind (suc k) bytes →
    IsCutBehind (suc k) (c ∷ bytes)
cut_onto c k bytes h cut =
    let some = counted_some (physical_lines cut.front) k cut.counts in
    record {
      front = c ∷ cut.front;
      later = cut.later;
      joins = ap (◌∷◌ c) cut.joins;
      whole =
          cut_step c (c == line_feed) (physical_lines cut.front) (physical_lines cut.later)
          (physical_lines (cut.front ++ cut.later)) some cut.whole;
      counts = rw h (onto_count c (physical_lines cut.front) some ∙ cut.counts);
    }

-- with a line feed in front they are cut after one more
cut_feed : (c : ℕ) (k : ℕ) (bytes : List ℕ) → (c == line_feed) ≡ true → IsCutBehind k bytes →
    IsCutBehind (suc k) (c ∷ bytes)
cut_feed c k bytes h cut = record {
  front = c ∷ cut.front;
  later = cut.later;
  joins = ap (◌∷◌ c) cut.joins;
  whole = rw h (ap (◌∷◌ (c ∷ [])) cut.whole);
  counts = rw h (ap suc cut.counts);
}

-- bytes may be cut after each number of their lines
pub cut_behind : (k : ℕ) (bytes : List ℕ) → k ≤ line_count bytes → IsCutBehind k bytes
cut_behind zero bytes h = record { front = []; later = bytes; joins = refl; whole = refl; counts = refl }
cut_behind (suc k) [] h = absurd (omega arith)
cut_behind (suc k) (c ∷ []) h = record {
  front = c ∷ [];
  later = [];
  joins = refl;
  whole = at (c == line_feed);
  counts = at_count (c == line_feed) h;
}
  where
    at : (b : Bool) → cond b ((c ∷ []) ∷ []) ((c ∷ []) ∷ []) ≡ cond b ((c ∷ []) ∷ []) ((c ∷ []) ∷ []) ++ []
    at true = refl
    at false = refl

    at_count : (b : Bool) → suc k ≤ length (cond b ((c ∷ []) ∷ []) ((c ∷ []) ∷ [])) →
        length (cond b ((c ∷ []) ∷ []) ((c ∷ []) ∷ [])) ≡ suc k
    at_count true h = omega arith
    at_count false h = omega arith
cut_behind (suc k) (c ∷ d ∷ bytes) h = elim (cases_Bool (c == line_feed)) [
  | inl is ↦
      let fewer : suc k ≤ suc (line_count (d ∷ bytes)) = rw is at h in
      cut_feed c k (d ∷ bytes) is (cut_behind k (d ∷ bytes) (omega arith))
  | inr is ↦
      let onto = onto_count c (physical_lines (d ∷ bytes)) (lines_some d bytes) in
      let as_many : suc k ≤ length (onto_first c (physical_lines (d ∷ bytes))) = rw is at h in
      cut_onto c k (d ∷ bytes) is (cut_behind (suc k) (d ∷ bytes) (omega arith))
]

-- There is a cut.
-- the next logical line is one of the first lines
next_within : (lines : Lines) (k : ℕ) (o : Logical) → lines ≢ [] → IsNext lines k o → k ≤ length lines
next_within lines k Skip some is = let h = some_length lines some in omega (arith, is.1)
next_within lines k (HasText text) some is = let h = is.1 in h.within
next_within lines k (StaysOpen text index) some is = omega (arith, is.1)
next_within lines k Broken some is = broken_within lines k is.1

-- what is left after the first lines is after the front
cut_left : (count : ℕ) (bytes : List ℕ) (cut : IsCutBehind count bytes) →
    drop count (line_texts bytes) ≡ line_texts cut.later
cut_left count bytes cut =
    let texts : line_texts bytes ≡ line_texts cut.front ++ line_texts cut.later =
    ap line_texts cut.joins ∙ texts_join cut.front cut.later cut.whole in
    let number : count ≡ length (line_texts cut.front) = sym (texts_count cut.front ∙ cut.counts) in
    rw (texts, number) (drop-append_seam (line_texts cut.front) (line_texts cut.later))

-- the first lines are the next slice
cut_next : (count : ℕ) (bytes : List ℕ) (line : Logical) (cut : IsCutBehind count bytes) →
    IsNext (line_texts bytes) count line → 0 < count → IsNextSlice cut.front line cut.later
cut_next count bytes line cut is positive = (
  λ none. let e = ap line_count none in let f = cut.counts in omega (arith, e, f),
  cut.whole,
  rw (← cut.joins, cut.counts) is,
)

-- bytes with these logical lines have slices
slices_from : (bytes : List ℕ) (lines : List Logical) → AreLogicalLines (line_texts bytes) lines →
    (slices : List Slice) × AreSlices bytes slices
slices_from [] lines are = ([], refl)
slices_from (c ∷ bytes) [] are = absurd (texts_some (c ∷ bytes) (λ e. cc) are)
slices_from (c ∷ bytes) (line ∷ lines) (some, count, is, are) =
    let within = next_within (line_texts (c ∷ bytes)) count line some is in
    let positive = next_positive (line_texts (c ∷ bytes)) count line some is in
    let cut = cut_behind count (c ∷ bytes) (omega (arith, within, texts_count (c ∷ bytes))) in
    let rest = slices_from cut.later lines (rw (cut_left count (c ∷ bytes) cut) at are) in (
      record { bytes = cut.front; logical = line } ∷ rest.0,
      (cut.later, cut.joins, cut_next count (c ∷ bytes) line cut is positive, rest.1),
    )

-- There is one.
-- slices with the same bytes that are the same are the same
slice_same : (x y : Slice) → x.bytes ≡ y.bytes → x.logical ≡ y.logical → x ≡ y
slice_same x y e f = λ i. record { bytes = e i; logical = f i }

-- whole lines are the first ones, joined
front_is : (front later : List ℕ) → AreWholeLines front later →
    concat (take (line_count front) (physical_lines (front ++ later))) ≡ front
front_is front later whole =
    rw (whole, take-append_seam (physical_lines front) (physical_lines later)) (concat-lines front)

-- bytes have one list of slices at most
pub slices_once : (bytes : List ℕ) (xs ys : List Slice) → AreSlices bytes xs → AreSlices bytes ys → xs ≡ ys
slices_once bytes [] [] a b = refl
slices_once bytes [] (y ∷ ys) a b = absurd (are_some bytes (y ∷ ys) b (λ e. cc) a)
slices_once bytes (x ∷ xs) [] a b = absurd (are_some bytes (x ∷ xs) a (λ e. cc) b)
slices_once bytes (x ∷ xs) (y ∷ ys) (later, e, is, are) (left, f, also, too) =
    let first : IsNext (line_texts bytes) (line_count x.bytes) x.logical = rw e is.2 in
    let second : IsNext (line_texts bytes) (line_count y.bytes) y.logical = rw f also.2 in
    let some : bytes ≢ [] = are_some bytes (x ∷ xs) (later, e, is, are) (λ k. cc) in
    let same =
    one_next (line_texts bytes) (line_count x.bytes) (line_count y.bytes) x.logical y.logical (texts_some bytes some)
    (cut_line_texts bytes) first second in
    let a : concat (take (line_count x.bytes) (physical_lines bytes)) ≡ x.bytes =
    rw e (front_is x.bytes later is.1) in
    let b : concat (take (line_count y.bytes) (physical_lines bytes)) ≡ y.bytes =
    rw f (front_is y.bytes left also.1) in
    let bytes_same : x.bytes ≡ y.bytes =
    sym a ∙ ap (λ n. concat (take n (physical_lines bytes))) same.0 ∙ b in
    let rest : later ≡ left =
    same_rest x.bytes later left (sym e ∙ f ∙ ap (λ t. t ++ left) (sym bytes_same)) in
    rw (slice_same x y bytes_same same.1, slices_once later xs ys are (rw rest too)) refl

-- bytes have one list of slices
pub one_cut : (bytes : List ℕ) →
    (slices : List Slice) × AreSlices bytes slices
    × ((others : List Slice) → AreSlices bytes others → others ≡ slices)
one_cut bytes =
    let texts = line_texts bytes in
    let lines = lines_within (length texts) texts (omega arith) (cut_line_texts bytes) in
    let slices = slices_from bytes lines.0 lines.1 in
    (slices.0, slices.1, λ others are. slices_once bytes others slices.0 are slices.1)
