-- A slice alone, and the same slice before later bytes.
use Rattle.std.proofs.Common.{◌≡◌, ◌≢◌, ℕ, ◌≤◌, ◌<◌, Bool, true, false, List, [], ◌∷◌, ◌++◌}
use Rattle.std.proofs.Common.{length, length-append, map, Option, Some, None, refl, sym, ◌∙◌, ap, arith}
use Rattle.std.proofs.Common.{append-nil, cond, inl, inr}
use Rattle.std.specs.Prelude.{◌==◌, ◌↔◌}
use Rattle.std.proofs.lemmas.Bool.{cases_Bool}
use Rattle.std.proofs.lemmas.List.{length-map, map-append, take-append-le, take_all, nil_from_length}
use Rattle.dotenvy_format.specs.Characters.{line_feed}
use Rattle.dotenvy_format.specs.PhysicalLines.{physical_lines, onto_first, line_text, line_texts, AreCut}
use Rattle.dotenvy_format.specs.Tokens.{tokens_text}
use Rattle.dotenvy_format.specs.LogicalLine.{Ending, line_end, escaped_line_end, comment, input_end}
use Rattle.dotenvy_format.specs.LogicalLine.{ending_text, IsEnding, IsWhole, with_text_before, joined_text}
use Rattle.dotenvy_format.specs.LogicalLine.{Logical, Skip, HasText, StaysOpen, Broken, IsNext, IsOpenEnd}
use Rattle.dotenvy_format.specs.LogicalLine.{IsText, IsSkipped, IsFirstBroken}
use Rattle.dotenvy_format.proofs.lines.Cuts.{lines_some, cut_step}
use Rattle.dotenvy_format.proofs.lines.Splitting.{tokens_going, whole_walks}
use Rattle.dotenvy_format.proofs.lines.NextLine.{Lines, ends_line, ends_join, whole_ends, line_goes_on}
use Rattle.dotenvy_format.proofs.lines.EntriesOnce.{cut_line_texts}
use Rattle.dotenvy_format.specs.declared.dialect.Dialect.{Dialect}
use Rattle.dotenvy_editor.specs.Ends.{ends_in}
use Rattle.dotenvy_editor.specs.Lines.{IsWritten}
use Rattle.dotenvy_editor.specs.Slices.{AreWholeLines, IsNextSlice, line_count}

-- the test of a last line feed is that of the library's proofs
pub ends_same : (bytes : List ℕ) → ends_in line_feed bytes ≡ ends_line bytes
ends_same [] = refl
ends_same (c ∷ []) = refl
ends_same (c ∷ d ∷ bytes) = ends_same (d ∷ bytes)

-- bytes with a line feed at their end are whole lines before any bytes
pub whole_before : (bytes later : List ℕ) → ends_line bytes ≡ true → AreWholeLines bytes later
whole_before [] later h = cc
whole_before (c ∷ []) later h = rw h refl
whole_before (c ∷ d ∷ bytes) later h =
    cut_step c (c == line_feed) (physical_lines (d ∷ bytes)) (physical_lines later)
    (physical_lines (d ∷ (bytes ++ later))) (lines_some d bytes) (whole_before (d ∷ bytes) later h)

-- where a character was put onto lines, as they are and joined to others, the lines are those joined
taken_off : (c : ℕ) (b : Bool) (xss yss zss : List (List ℕ)) → xss ≢ [] → zss ≢ [] →
    cond b ((c ∷ []) ∷ zss) (onto_first c zss) ≡ cond b ((c ∷ []) ∷ xss) (onto_first c xss) ++ yss →
    zss ≡ xss ++ yss
taken_off c true xss yss zss some other h = cc
taken_off c false [] yss zss some other h = absurd (some refl)
taken_off c false xss yss [] some other h = absurd (other refl)
taken_off c false (xs ∷ xss) yss (zs ∷ zss) some other h = cc

-- where others follow, bytes that are whole lines have a line feed at their end
pub whole_ends_line : (bytes later : List ℕ) → bytes ≢ [] → later ≢ [] → AreWholeLines bytes later →
    ends_line bytes ≡ true
whole_ends_line [] later some other whole = absurd (some refl)
whole_ends_line bytes [] some other whole = absurd (other refl)
whole_ends_line (c ∷ []) (d ∷ later) some other whole =
    elim (cases_Bool (c == line_feed)) [
      | inl h ↦ h
      | inr h ↦ absurd (alone (physical_lines (d ∷ later)) (lines_some d later) (rw h at whole))
    ]
  where
    alone : (xss : List (List ℕ)) → xss ≢ [] → ¬ (onto_first c xss ≡ (c ∷ []) ∷ xss)
    alone [] more e = more refl
    alone (xs ∷ xss) more e = let k = ap length e in omega (arith, k)
whole_ends_line (c ∷ e ∷ bytes) (d ∷ later) some other whole =
    whole_ends_line (e ∷ bytes) (d ∷ later) (λ k. cc) other
    (taken_off c (c == line_feed) (physical_lines (e ∷ bytes)) (physical_lines (d ∷ later))
    (physical_lines (e ∷ (bytes ++ d ∷ later))) (lines_some e bytes) (lines_some e (bytes ++ d ∷ later)) whole)

-- the texts of bytes that are whole lines and of later ones are those of both
pub texts_join : (bytes later : List ℕ) → AreWholeLines bytes later →
    line_texts (bytes ++ later) ≡ line_texts bytes ++ line_texts later
texts_join bytes later whole =
    ap (map line_text) whole ∙ map-append line_text (physical_lines bytes) (physical_lines later)

-- there are as many texts as lines
pub texts_count : (bytes : List ℕ) → length (line_texts bytes) ≡ line_count bytes
texts_count bytes = length-map (physical_lines bytes) line_text

-- some bytes have a line
pub texts_some : (bytes : List ℕ) → bytes ≢ [] → line_texts bytes ≢ []
texts_some [] some h = some refl
texts_some (c ∷ bytes) some h =
    let e = ap length h in
    lines_some c bytes (nil_from_length (physical_lines (c ∷ bytes)) (sym (texts_count (c ∷ bytes)) ∙ e))

-- a line may end as one after which others come, or as one after which none does, where that leads on
ending_moves : (ending : Ending) {last other : Type 0} → (last → other) → IsEnding ending last → IsEnding ending other
ending_moves line_end f is = tt
ending_moves escaped_line_end f is = tt
ending_moves (comment b words) f is = is
ending_moves input_end f is = f is

-- a whole logical line is one where it may be the last as well
pub whole_moves : {text kept : List ℕ} {last other : Type 0} → (last → other) → IsWhole text kept last →
    IsWhole text kept other
whole_moves f w = record {
  tokens = w.tokens;
  ending = w.ending;
  are_tokens = w.are_tokens;
  is_ending = ending_moves w.ending f w.is_ending;
  spelled = w.spelled;
  cut = w.cut;
}

-- a whole logical line that ends with a line feed is one before any lines
pub whole_closed : {text kept : List ℕ} {last : Type 0} (other : Type 0) → ends_line text ≡ true →
    IsWhole text kept last → IsWhole text kept other
whole_closed {text} {kept} {last} other ends w = record {
  tokens = w.tokens;
  ending = w.ending;
  are_tokens = w.are_tokens;
  is_ending = closed w.ending refl w.is_ending;
  spelled = w.spelled;
  cut = w.cut;
}
  where
    never : w.ending ≡ input_end → ⊥
    never e =
        let g = tokens_going w.tokens (ending_text w.ending) w.are_tokens in
        let goes = g.1 in
        let spelled : text ≡ tokens_text w.tokens = w.spelled ∙ rw e (append-nil (tokens_text w.tokens)) in
        elim (whole_walks w) [
          | inl h ↦ cc
          | inr h ↦ let outside = h.0 in line_goes_on text _ outside ends refl
        ]

    closed : (ending : Ending) → w.ending ≡ ending → IsEnding ending last → IsEnding ending other
    closed line_end e is = tt
    closed escaped_line_end e is = tt
    closed (comment b words) e is = is
    closed input_end e is = absurd (never e)

-- before a line the texts of lines, joined, end with a line feed
joined_ends : (lines : Lines) (l : Option (List ℕ)) (more : Lines) (text : List ℕ) → lines ≢ [] →
    AreCut (lines ++ l ∷ more) → joined_text lines ≡ Some text → ends_line text ≡ true
joined_ends [] l more text some cut e = absurd (some refl)
joined_ends (None ∷ lines) l more text some cut e = cc
joined_ends (Some t ∷ []) l more text some cut e =
    let h : t ≡ text = let k : Some (t ++ []) ≡ Some text = e in let j = append-nil t in cc in
    rw (← h) (whole_ends t cut.0)
joined_ends (Some t ∷ u ∷ lines) l more text some cut e =
    at (joined_text (u ∷ lines)) e (λ s f. joined_ends (u ∷ lines) l more s (λ k. cc) cut.1 f)
  where
    at : (j : Option (List ℕ)) → with_text_before t j ≡ Some text →
        ((s : List ℕ) → j ≡ Some s → ends_line s ≡ true) → ends_line text ≡ true
    at None g ends = cc
    at (Some s) g ends = let h : t ++ s ≡ text = cc in rw (← h) (ends_join t s (ends s refl))

-- a first line is skipped just where it is so before more lines
pub skipped_more : (lines more : Lines) → lines ≢ [] → IsSkipped lines ↔ IsSkipped (lines ++ more)
skipped_more [] more some = absurd (some refl)
skipped_more (None ∷ lines) more some = (λ h. h, λ h. h)
skipped_more (Some t ∷ lines) more some = (λ h. h, λ h. h)

-- lines that are a text before more lines are it without these
text_back : (lines more : Lines) (k : ℕ) (kept : List ℕ) → k ≤ length lines → IsText (lines ++ more) k kept →
    IsText lines k kept
text_back lines more k kept le is = record {
  text = is.text;
  within = le;
  joins = rw (← take-append-le k lines more le) is.joins;
  whole = whole_moves (λ e. omega (arith, e, length-append lines more)) is.whole;
}

-- lines that are a text, with the whole logical line moved, are it before more lines
text_more : (lines more : Lines) (k : ℕ) (kept : List ℕ) → k ≤ length lines → (is : IsText lines k kept) →
    IsWhole is.text kept (k ≡ length (lines ++ more)) → IsText (lines ++ more) k kept
text_more lines more k kept le is whole = record {
  text = is.text;
  within = omega (arith, length-append lines more);
  joins = rw (take-append-le k lines more le) is.joins;
  whole = whole;
}

-- fewer lines that are a text are it before more lines
text_fewer : (lines more : Lines) (k : ℕ) (kept : List ℕ) → k < length lines → IsText lines k kept →
    IsText (lines ++ more) k kept
text_fewer lines more k kept lt is =
    text_more lines more k kept (omega arith) is (whole_moves (λ e. absurd (omega (arith, e))) is.whole)

-- the first broken line has a number from 1 on
broken_positive : (lines : Lines) (k : ℕ) → IsFirstBroken k lines → 0 < k
broken_positive [] k h = absurd h
broken_positive (None ∷ lines) k h = omega (arith, h)
broken_positive (Some t ∷ lines) k (i, e, h) = omega (arith, e)

-- the first broken line is so before more lines
broken_more : (lines more : Lines) (k : ℕ) → IsFirstBroken k lines → IsFirstBroken k (lines ++ more)
broken_more [] more k h = absurd h
broken_more (None ∷ lines) more k h = h
broken_more (Some t ∷ lines) more k (i, e, h) = (i, e, broken_more lines more i h)

-- the first broken line, if it is one of the first lines, is the first broken one of these
broken_back : (lines more : Lines) (k : ℕ) → k ≤ length lines → IsFirstBroken k (lines ++ more) → IsFirstBroken k lines
broken_back [] more k le h = let p = broken_positive more k h in absurd (omega arith)
broken_back (None ∷ lines) more k le h = h
broken_back (Some t ∷ lines) more k le (i, e, h) = (i, e, broken_back lines more i (omega (arith, e)) h)

-- lines that are all of a logical line before more lines are it alone
next_back : (lines more : Lines) (k : ℕ) (o : Logical) → lines ≢ [] → k ≡ length lines → IsNext (lines ++ more) k o →
    IsNext lines k o
next_back lines more k Skip some all is = ((skipped_more lines more some).1 is.0, is.1)
next_back lines more k (HasText kept) some all is =
    (λ h. is.0 ((skipped_more lines more some).0 h), text_back lines more k kept (omega (arith, all)) is.1)
next_back lines more k (StaysOpen text index) some all is =
    let none : more ≡ [] = nil_from_length more (omega (arith, all, is.1, length-append lines more)) in
    let same : lines ++ more ≡ lines = rw (none, append-nil) refl in
    rw same at is
next_back lines more k Broken some all is = (
  λ h. is.0 ((skipped_more lines more some).0 h),
  broken_back lines more k (omega (arith, all)) is.1,
  λ fewer kept lt h. is.2 fewer kept lt (text_fewer lines more fewer kept (omega (arith, all)) h),
)

-- lines that are all of a logical line are it before a line more, except an open end
next_more : (lines : Lines) (l : Option (List ℕ)) (more : Lines) (k : ℕ) (o : Logical) → lines ≢ [] →
    k ≡ length lines → AreCut (lines ++ l ∷ more) → ¬ (IsOpenEnd o) → IsNext lines k o →
    IsNext (lines ++ l ∷ more) k o
next_more lines l more k Skip some all cut closed is = ((skipped_more lines (l ∷ more) some).0 is.0, is.1)
next_more lines l more k (HasText kept) some all cut closed is =
    let text = is.1 in
    let joins : joined_text lines ≡ Some text.text = rw (take_all k lines (omega (arith, all))) at text.joins in
    let ends = joined_ends lines l more text.text some cut joins in (
      λ h. is.0 ((skipped_more lines (l ∷ more) some).1 h),
      text_more lines (l ∷ more) k kept (omega (arith, all)) text (whole_closed _ ends text.whole),
    )
next_more lines l more k (StaysOpen text index) some all cut closed is = absurd (closed tt)
next_more lines l more k Broken some all cut closed is = (
  λ h. is.0 ((skipped_more lines (l ∷ more) some).1 h),
  broken_more lines (l ∷ more) k is.1,
  λ fewer kept lt h. is.2 fewer kept lt (text_back lines (l ∷ more) fewer kept (omega (arith, all)) h),
)

-- some bytes whose lines are all of a logical line are it alone
pub alone_is : (bytes : List ℕ) (logical : Logical) → bytes ≢ [] →
    IsNext (line_texts bytes) (line_count bytes) logical → IsNextSlice bytes logical []
alone_is bytes logical some is = rw (append-nil bytes) (some, sym (append-nil (physical_lines bytes)), is)

-- of bytes that are a logical line alone, the lines are all of it
pub alone_next : (bytes : List ℕ) (logical : Logical) → IsNextSlice bytes logical [] →
    IsNext (line_texts bytes) (line_count bytes) logical
alone_next bytes logical is = rw (append-nil bytes) at is.2

-- bytes that are a logical line before later ones are it alone
pub alone_of : (bytes later : List ℕ) (logical : Logical) → IsNextSlice bytes logical later →
    IsNextSlice bytes logical []
alone_of bytes later logical (some, whole, is) =
    alone_is bytes logical some
    (next_back (line_texts bytes) (line_texts later) (line_count bytes) logical (texts_some bytes some)
    (sym (texts_count bytes)) (rw (texts_join bytes later whole) at is))

-- a line with its line feed that isn't open is the same logical line before any bytes
pub before_any : (bytes later : List ℕ) (logical : Logical) → ends_line bytes ≡ true → ¬ (IsOpenEnd logical) →
    IsNextSlice bytes logical [] → IsNextSlice bytes logical later
before_any bytes [] logical ends closed is = is
before_any bytes (c ∷ later) logical ends closed (some, own, is) =
    let whole = whole_before bytes (c ∷ later) ends in
    let joined = texts_join bytes (c ∷ later) whole in
    let alone : IsNext (line_texts bytes) (line_count bytes) logical = rw (append-nil bytes) at is in (
      some,
      whole,
      rw joined (more (line_texts (c ∷ later)) (texts_some (c ∷ later) (λ e. cc))
          (rw joined at (cut_line_texts (bytes ++ c ∷ later))) alone),
    )
  where
    more : (lines : Lines) → lines ≢ [] → AreCut (line_texts bytes ++ lines) →
        IsNext (line_texts bytes) (line_count bytes) logical →
        IsNext (line_texts bytes ++ lines) (line_count bytes) logical
    more [] none cut alone = absurd (none refl)
    more (l ∷ lines) none cut alone =
        next_more (line_texts bytes) l lines (line_count bytes) logical (texts_some bytes some)
        (sym (texts_count bytes)) cut closed alone

-- an open end has no bytes after it
pub open_last : (bytes later : List ℕ) (logical : Logical) → IsOpenEnd logical → IsNextSlice bytes logical later →
    later ≡ []
open_last bytes later Skip is_open is = absurd is_open
open_last bytes later (HasText kept) is_open is = absurd is_open
open_last bytes later Broken is_open is = absurd is_open
open_last bytes [] (StaysOpen text index) is_open is = refl
open_last bytes (c ∷ later) (StaysOpen text index) is_open (some, whole, is) =
    let e = ap length (texts_join bytes (c ∷ later) whole) in
    let n : length (line_texts (c ∷ later)) ≡ 0 =
    omega (arith, e, is.1, texts_count bytes, length-append (line_texts bytes) (line_texts (c ∷ later))) in
    absurd (texts_some (c ∷ later) (λ k. cc) (nil_from_length (line_texts (c ∷ later)) n))

-- a line with its line feed that isn't open is the same logical line alone and before any bytes
pub stands_alone : (bytes later : List ℕ) (logical : Logical) → ends_in line_feed bytes ≡ true →
    ¬ (IsOpenEnd logical) → IsNextSlice bytes logical [] ↔ IsNextSlice bytes logical later
stands_alone bytes later logical ends closed =
    (before_any bytes later logical (sym (ends_same bytes) ∙ ends) closed, alone_of bytes later logical)

-- a written line that ends with a line feed is written alone and before any bytes
pub written_before : {dialect : Dialect} {key value line : List ℕ} (later : List ℕ) → ends_line line ≡ true →
    IsWritten dialect key value line [] → IsWritten dialect key value line later
written_before {line = line} later ends w = record {
  text = w.text;
  pieces = w.pieces;
  next = before_any line later (HasText w.text) ends (λ h. h) w.next;
  says = w.says;
  means = w.means;
}

-- a line that is written before any bytes is written alone
pub written_alone : {dialect : Dialect} {key value line : List ℕ} (later : List ℕ) →
    IsWritten dialect key value line later → IsWritten dialect key value line []
written_alone {line = line} later w = record {
  text = w.text;
  pieces = w.pieces;
  next = alone_of line later (HasText w.text) w.next;
  says = w.says;
  means = w.means;
}
