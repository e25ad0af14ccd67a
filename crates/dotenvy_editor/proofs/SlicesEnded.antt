-- A last slice without its line feed is, with an end after it, a slice with the same entries.
use Rattle.std.proofs.Common.{◌≡◌, ◌≢◌, ℕ, suc, ◌<◌, Bool, true, false, ◌||◌, not, List, [], ◌∷◌, ◌++◌}
use Rattle.std.proofs.Common.{refl, sym, ◌∙◌, ap, append_assoc, append-nil, length, length-append}
use Rattle.std.proofs.Common.{Option, Some, None, inl, inr, arith}
use Rattle.std.specs.Prelude.{◌==◌, ◌⊎◌, encode_utf8_all}
use Rattle.std.proofs.Math.Utf8.{encode, scalar, scalars}
use Rattle.std.proofs.lemmas.Bool.{cases_Bool, eqb-true, false_from_ne_true}
use Rattle.std.proofs.lemmas.Bool.Decides.{nat_tests}
use Rattle.std.proofs.lemmas.List.{nil_from_length}
use Rattle.std.proofs.lemmas.List.Folds.{list_all-append}
use Rattle.std.proofs.lemmas.Str.{encode_ascii, encodes-append}
use Rattle.dotenvy_format.specs.declared.dialect.Dialect.{Dialect}
use Rattle.dotenvy_format.specs.Characters.{carriage_return, line_feed}
use Rattle.dotenvy_format.specs.PhysicalLines.{line_text, line_texts}
use Rattle.dotenvy_format.specs.LogicalLine.{Broken, HasText, IsFirstBroken, IsOpenEnd, IsSkipped}
use Rattle.dotenvy_format.specs.LogicalLine.{Logical, Skip, StaysOpen}
use Rattle.dotenvy_format.specs.Outcome.{Outcome, Nothing, Pair, Fault, Says, trimmed}
use Rattle.dotenvy_format.proofs.lines.NextLine.{ends_line, ends_line-append}
use Rattle.dotenvy_editor.specs.Assignments.{AssignsKey}
use Rattle.dotenvy_editor.specs.Edits.{IsGapAfter, has_mark}
use Rattle.dotenvy_editor.specs.Ends.{QuotesReturn, IsGap, ends_in}
use Rattle.dotenvy_editor.specs.Laws.{Marked, GiveAllMarked, GivesMarked}
use Rattle.dotenvy_editor.specs.Slices.{Slice, IsNextSlice, line_count, slices_bytes}
use Rattle.dotenvy_editor.proofs.SlicesAlone.{alone_is, alone_next, ends_same, texts_count}
use Rattle.dotenvy_editor.proofs.SlicesChained.{AllClosed, AreChained, IsAlone, logicals}
use Rattle.dotenvy_editor.proofs.SliceTexts.{alone_text, text_alone}
use Rattle.dotenvy_editor.proofs.LineEnds.{KeepsSame, broken_other, comment_more, count_gap, cut_last, ended_whole}
use Rattle.dotenvy_editor.proofs.LineEnds.{gap_of, gap_spells, gapped, last_end_is, no_return, skipped_gap, text_gap}
use Rattle.dotenvy_editor.proofs.LineEnds.{text_other, texts_cut, texts_gap, trim_return}
use Rattle.dotenvy_editor.proofs.FileMarks.{mark_line, mark_more}

-- The last character.
-- two texts joined, where the second isn't empty, end as the second does
pub ends_in-append : (c : ℕ) (xs : List ℕ) (d : ℕ) (ys : List ℕ) → ends_in c (xs ++ d ∷ ys) ≡ ends_in c (d ∷ ys)
ends_in-append c [] d ys = refl
ends_in-append c (x ∷ []) d ys = refl
ends_in-append c (x ∷ y ∷ xs) d ys = ends_in-append c (y ∷ xs) d ys

ends_in-some : (c : ℕ) (xs ys : List ℕ) → ys ≢ [] → ends_in c (xs ++ ys) ≡ ends_in c ys
ends_in-some c xs [] some = absurd (some refl)
ends_in-some c xs (d ∷ ys) some = ends_in-append c xs d ys

-- a text that ends in a character has it after a front
ends_in_split : (c : ℕ) (text : List ℕ) → ends_in c text ≡ true → (front : List ℕ) × (text ≡ front ++ c ∷ [])
ends_in_split c [] h = cc
ends_in_split c (d ∷ []) h = let e = eqb-true d c h in ([], rw e refl)
ends_in_split c (d ∷ e ∷ text) h = let rest = ends_in_split c (e ∷ text) h in (d ∷ rest.0, ap (◌∷◌ d) rest.1)

-- a text that ends in a character ends in no other
ends_in_one : (c d : ℕ) (text : List ℕ) → (c == d) ≡ false → ends_in c text ≡ true → ends_in d text ≡ false
ends_in_one c d text differs h =
    let split = ends_in_split c text h in rw split.1 (ends_in-append d split.0 c [] ∙ differs)

-- where the characters end in an ASCII character, so do the bytes
ends_in-encodes : (c : ℕ) (text : List ℕ) → c < 128 → ends_in c text ≡ true →
    ends_in c (encode_utf8_all text) ≡ true
ends_in-encodes c text h is =
    let split = ends_in_split c text is in
    let spelled : encode_utf8_all (c ∷ []) ≡ c ∷ [] = append-nil (encode c) ∙ encode_ascii c h in
    rw (split.1, encodes-append, spelled) (ends_in-append c (encode_utf8_all split.0) c [] ∙ same c)
  where
    same : (c : ℕ) → (c == c) ≡ true
    same c = grind (arith, nat_tests)

-- where the bytes don't, the characters don't
not_encodes : (c : ℕ) (text : List ℕ) → c < 128 → ends_in c (encode_utf8_all text) ≡ false → ends_in c text ≡ false
not_encodes c text h is = false_from_ne_true _ (λ e. let f = ends_in-encodes c text h e in cc)

-- Texts that say the same.
-- a text that is trimmed to the same says the same as one that ends in a carriage return which no fault quotes
says_same : (dialect : Dialect) (old new : List ℕ) (outcome : Outcome) → trimmed new ≡ trimmed old →
    ends_in carriage_return old ≡ true → ¬ (QuotesReturn (HasText old)) → Says dialect old outcome →
    Says dialect new outcome
says_same dialect old new Nothing same returns sound says = rw same says
says_same dialect old new (Pair key pieces) same returns sound says = rw same says
says_same dialect old new (Fault text index) same returns sound (some, inl fault) =
    absurd (sound (some, fault.none, returns))
says_same dialect old new (Fault text index) same returns sound (some, inr fault) = rw same (some, inr fault)

-- a text that is trimmed to the same is an assignment of the key just where the other is
assigns_same : (key old new : List ℕ) → trimmed new ≡ trimmed old → AssignsKey key (HasText old) →
    AssignsKey key (HasText new)
assigns_same key old new same assigns = rw same assigns

-- such a text gives the same marked entries
gives_same : (dialect : Dialect) (key old new : List ℕ) (marked : List Marked) → trimmed new ≡ trimmed old →
    ends_in carriage_return old ≡ true → ¬ (QuotesReturn (HasText old)) →
    GivesMarked dialect key (HasText old) marked → GivesMarked dialect key (HasText new) marked
gives_same dialect key old new marked same returns sound (entries, gives, mark) = (
  entries,
  (gives.0, says_same dialect old new gives.0 same returns sound gives.1, gives.2),
  elim mark [
    | inl own ↦ inl (assigns_same key old new same own.0, own.1)
    | inr other ↦ inr (λ assigns. other.0 (assigns_same key new old (sym same) assigns), other.1)
  ],
)

-- the slice with the end is a closed slice with the same entries
pub record IsEnded (dialect : Dialect) (key bytes gap : List ℕ) (old : Logical) : Type 0 where
  pub new : Logical
  pub alone : IsNextSlice (bytes ++ gap) new []
  pub closed : ¬ (IsOpenEnd new)
  pub same : (marked : List Marked) → GivesMarked dialect key old marked → GivesMarked dialect key new marked

-- the end may be after the last line: with a carriage return, or where none is before it, or where no fault
-- quotes it
abbrev pub MayEnd : Bool → List ℕ → Logical → Type 0
MayEnd b bytes old = (b ≡ true) ⊎ ((ends_in carriage_return bytes ≡ false) ⊎ ¬ (QuotesReturn old))

-- bytes with more aren't empty
more_some : (bytes more : List ℕ) → bytes ≢ [] → bytes ++ more ≢ []
more_some [] more some e = some refl
more_some (c ∷ bytes) more some e = cc

module _ (dialect : Dialect) (key bytes : List ℕ) (b : Bool) (some : bytes ≢ []) (open_line : ends_line bytes ≡ false)
  where
    -- a comment with an end is skipped
    ended_skip : IsNextSlice bytes Skip [] → IsEnded dialect key bytes (gap_of b) Skip
    ended_skip is =
        let next = alone_next bytes Skip is in
        let cut = cut_last bytes some open_line in
        let size = ap length (texts_cut cut) in
        let sum = length-append (line_texts cut.front) (line_text cut.last ∷ []) in
        let none : line_texts cut.front ≡ [] =
        nil_from_length (line_texts cut.front) (omega (arith, size, sum, next.1, texts_count bytes)) in
        let old : line_texts bytes ≡ line_text cut.last ∷ [] = rw none at (texts_cut cut) in
        let new : line_texts (bytes ++ gap_of b) ≡ gapped b (line_text cut.last) ∷ [] =
        rw (none, text_gap cut.last b) at (texts_gap cut b) in
        record {
          new = Skip;
          alone =
              alone_is (bytes ++ gap_of b) Skip (more_some bytes (gap_of b) some)
              (rw new (skips (line_text cut.last) (rw old at next.0)), count_gap cut b ∙ next.1);
          closed = λ h. h;
          same = λ marked gives. gives;
        }
      where
        skips : (line : Option (List ℕ)) → IsSkipped (line ∷ []) → IsSkipped (gapped b line ∷ [])
        skips None h = absurd h
        skips (Some text) h = comment_more text (gap_of b) h

    -- a broken line with an end is broken
    ended_broken : IsNextSlice bytes Broken [] → IsEnded dialect key bytes (gap_of b) Broken
    ended_broken is =
        let next = alone_next bytes Broken is in
        let cut = cut_last bytes some open_line in
        let front = line_texts cut.front in
        let line = line_text cut.last in
        let old = texts_cut cut in
        let new : line_texts (bytes ++ gap_of b) ≡ front ++ gapped b line ∷ [] =
        rw (text_gap cut.last b) at (texts_gap cut b) in
        let size = ap length old in
        let count : line_count bytes ≡ suc (length front) =
        omega (arith, size, length-append front (line ∷ []), texts_count bytes) in
        let broken : IsFirstBroken (suc (length front)) (front ++ line ∷ []) = rw (old, count) at next.1 in
        record {
          new = Broken;
          alone =
              alone_is (bytes ++ gap_of b) Broken (more_some bytes (gap_of b) some)
              (rw (new, count_gap cut b, count) (
                shown front line (rw old at next.0) broken,
                broken_other front line (gapped b line) (λ e. rw e refl) broken,
                λ fewer kept lt text.
                    next.2 fewer kept (omega (arith, count))
                    (rw old (text_other front (gapped b line) line fewer kept (omega arith) text)),
              ));
          closed = λ h. h;
          same = λ marked gives. gives;
        }
      where
        shown : (front : List (Option (List ℕ))) (line : Option (List ℕ)) → ¬ (IsSkipped (front ++ line ∷ [])) →
            IsFirstBroken (suc (length front)) (front ++ line ∷ []) → ¬ (IsSkipped (front ++ gapped b line ∷ []))
        shown [] None not_skipped broken h = h
        shown [] (Some text) not_skipped broken h = broken.2
        shown (None ∷ front) line not_skipped broken h = h
        shown (Some text ∷ front) line not_skipped broken h = not_skipped h

    -- a text with an end is a text that says the same
    ended_text : (kept : List ℕ) → IsNextSlice bytes (HasText kept) [] → MayEnd b bytes (HasText kept) →
        IsEnded dialect key bytes (gap_of b) (HasText kept)
    ended_text kept is may =
        let t = text_alone bytes kept is in
        let ends = not_encodes line_feed t.text (omega arith)
        (ap (ends_in line_feed) (sym t.spells) ∙ ends_same bytes ∙ open_line) in
        let whole = ended_whole t.text kept b t.whole (sym (ends_same t.text) ∙ ends) in
        let returns = λ (h : ends_in carriage_return bytes ≡ false).
        not_encodes carriage_return t.text (omega arith) (ap (ends_in carriage_return) (sym t.spells) ∙ h) in
        record {
          new = HasText whole.0;
          alone =
              alone_text (bytes ++ gap_of b) whole.0 (more_some bytes (gap_of b) some) (record {
                text = t.text ++ gap_of b;
                spells = rw (encodes-append, gap_spells b, ← t.spells) refl;
                are_scalars = rw (list_all-append scalar t.text (gap_of b), t.are_scalars) (gap_scalars b);
                shown = λ h. t.shown (skipped_gap t.text b h);
                whole = whole.1;
              });
          closed = λ h. h;
          same = keeps t.text whole.0 whole.2 may returns;
        }
      where
        gap_scalars : (b : Bool) → scalars (gap_of b) ≡ true
        gap_scalars true = refl
        gap_scalars false = refl

        keeps : (text other : List ℕ) → KeepsSame b text kept other → MayEnd b bytes (HasText kept) →
            (ends_in carriage_return bytes ≡ false → ends_in carriage_return text ≡ false) → (marked : List Marked) →
            GivesMarked dialect key (HasText kept) marked → GivesMarked dialect key (HasText other) marked
        keeps text other (inl same) may returns marked gives = rw same gives
        keeps text other (inr (without, is_text, cut)) (inl with) returns marked gives = cc
        keeps text other (inr (without, is_text, cut)) (inr (inl h)) returns marked gives =
            let same : other ≡ kept = cut ∙ no_return kept (rw is_text (returns h)) in rw same gives
        keeps text other (inr (without, is_text, cut)) (inr (inr sound)) returns marked gives =
            elim (cases_Bool (ends_in carriage_return kept)) [
              | inl ends ↦
                  gives_same dialect key kept other marked (ap trimmed cut ∙ trim_return kept) ends sound gives
              | inr not ↦ let same : other ≡ kept = cut ∙ no_return kept not in rw same gives
            ]

    -- a line with an end is a line with the same entries
    pub ended : (old : Logical) → IsNextSlice bytes old [] → ¬ (IsOpenEnd old) → MayEnd b bytes old →
        IsEnded dialect key bytes (gap_of b) old
    ended Skip is closed may = ended_skip is
    ended (HasText kept) is closed may = ended_text kept is may
    ended (StaysOpen text index) is closed may = absurd (closed tt)
    ended Broken is closed may = ended_broken is

-- Slices before an appended line.
-- slices that others may follow have the bytes with the gap, and the same entries; the gap makes no mark
pub record AreEnded (dialect : Dialect) (key body gap : List ℕ) (slices : List Slice) : Type 0 where
  pub ended : List Slice
  pub chain : AreChained ended
  pub closed : AllClosed ended
  pub spelled : slices_bytes ended ≡ slices_bytes slices ++ gap
  pub same :
      (marked : List Marked) → GiveAllMarked dialect key (logicals slices) marked →
      GiveAllMarked dialect key (logicals ended) marked
  pub unmarked : slices ≢ [] → (later : List ℕ) → has_mark (body ++ (gap ++ later)) ≡ has_mark body

-- what a gap after a last slice is: nothing after a line feed, else an end that may stand there
abbrev pub IsGapOf : List ℕ → Logical → List ℕ → Type 0
IsGapOf bytes logical gap =
    ((ends_line bytes ≡ true) × (gap ≡ []))
    ⊎ ((b : Bool) × (ends_line bytes ≡ false) × (gap ≡ gap_of b) × MayEnd b bytes logical)

-- a gap after the bytes of a file is one after its last slice
gap_is : (body bytes : List ℕ) (logical : Logical) (gap : List ℕ) →
    ((c : ℕ) → ends_in c body ≡ ends_in c bytes) → IsGap body logical gap → IsGapOf bytes logical gap
gap_is body bytes logical gap same (inl (ends, none)) =
    inl (sym (ends_same bytes) ∙ sym (same line_feed) ∙ ends, none)
gap_is body bytes logical gap same (inr (inl (ends, inl (fault, is)))) =
    let returns : ends_in carriage_return bytes ≡ true = sym (same carriage_return) ∙ ends in
    inr (true, sym (ends_same bytes) ∙ ends_in_one carriage_return line_feed bytes refl returns, is, inl refl)
gap_is body bytes logical gap same (inr (inl (ends, inr (sound, is)))) =
    let returns : ends_in carriage_return bytes ≡ true = sym (same carriage_return) ∙ ends in
    inr (false, sym (ends_same bytes) ∙ ends_in_one carriage_return line_feed bytes refl returns, is, inr (inr sound))
gap_is body bytes logical gap same (inr (inr (neither, is))) =
    let none = neither_of (ends_in line_feed body) (ends_in carriage_return body) neither in
    let end = last_end_is body in
    inr (
      end.0,
      sym (ends_same bytes) ∙ sym (same line_feed) ∙ none.0,
      is ∙ end.1,
      inr (inl (sym (same carriage_return) ∙ none.1)),
    )
  where
    neither_of : (x y : Bool) → not (x || y) ≡ true → (x ≡ false) × (y ≡ false)
    neither_of true y h = cc
    neither_of false true h = cc
    neither_of false false h = (refl, refl)

-- a gap after some bytes makes no mark
gap_unmarked : (body bytes : List ℕ) (logical : Logical) (gap later : List ℕ) →
    ((c : ℕ) → ends_in c body ≡ ends_in c bytes) → IsGapOf bytes logical gap →
    has_mark (body ++ (gap ++ later)) ≡ has_mark body
gap_unmarked body bytes logical gap later same (inl (ends, none)) =
    rw none (mark_line body later (sym (ends_same body) ∙ same line_feed ∙ ends_same bytes ∙ ends))
gap_unmarked body bytes logical gap later same (inr (true, open_line, is, may)) =
    rw is (mark_more body carriage_return (line_feed ∷ later) (omega arith))
gap_unmarked body bytes logical gap later same (inr (false, open_line, is, may)) =
    rw is (mark_more body line_feed later (omega arith))

-- a last slice with a gap
ended_last : (dialect : Dialect) (key body gap : List ℕ) (slice : Slice) → IsAlone slice →
    ((c : ℕ) → ends_in c body ≡ ends_in c slice.bytes) → ¬ (IsOpenEnd slice.logical) →
    IsGapOf slice.bytes slice.logical gap → AreEnded dialect key body gap (slice ∷ [])
ended_last dialect key body gap slice alone same closed (inl (ends, none)) = record {
  ended = slice ∷ [];
  chain = (alone, λ some. (ends, closed), tt);
  closed = ((ends, closed), tt);
  spelled = rw (none, append-nil (slice.bytes ++ [])) refl;
  same = λ marked give. give;
  unmarked = λ some later. gap_unmarked body slice.bytes slice.logical gap later same (inl (ends, none));
}
ended_last dialect key body gap slice alone same closed (inr (b, open_line, is, may)) =
    let e = ended dialect key slice.bytes b alone.0 open_line slice.logical alone closed may in
    let new : Slice = record { bytes = slice.bytes ++ gap_of b; logical = e.new } in
    let ends : ends_line (slice.bytes ++ gap_of b) ≡ true = ends_gap slice.bytes b in
    record {
      ended = new ∷ [];
      chain = (e.alone, λ some. (ends, e.closed), tt);
      closed = ((ends, e.closed), tt);
      spelled = rw (is, append-nil slice.bytes, append-nil (slice.bytes ++ gap_of b)) refl;
      same = λ marked (front, after, gives, none, spelled). (front, after, e.same front gives, none, spelled);
      unmarked = λ some later.
          gap_unmarked body slice.bytes slice.logical gap later same (inr (b, open_line, is, may));
    }
  where
    ends_gap : (bytes : List ℕ) (b : Bool) → ends_line (bytes ++ gap_of b) ≡ true
    ends_gap bytes true = ends_line-append bytes carriage_return (line_feed ∷ [])
    ends_gap bytes false = ends_line-append bytes line_feed []

-- the last byte of a file is that of its last slice
last_of : (pre : List ℕ) (slice : Slice) (body : List ℕ) → slice.bytes ≢ [] → body ≡ pre ++ (slice.bytes ++ []) →
    (c : ℕ) → ends_in c body ≡ ends_in c slice.bytes
last_of pre slice body some e c = rw (e, append-nil slice.bytes) (ends_in-some c pre slice.bytes some)

-- slices of a file with the gap before an appended line
pub ended_slices : (dialect : Dialect) (key pre body gap : List ℕ) (slices : List Slice) →
    body ≡ pre ++ slices_bytes slices → AreChained slices → IsGapAfter body slices gap →
    AreEnded dialect key body gap slices
ended_slices dialect key pre body gap [] e chain is = record {
  ended = [];
  chain = tt;
  closed = tt;
  spelled = rw is refl;
  same = λ marked give. give;
  unmarked = λ some. absurd (some refl);
}
ended_slices dialect key pre body gap (slice ∷ []) e (alone, may, chain) (closed, is) =
    let same = last_of pre slice body alone.0 e in
    ended_last dialect key body gap slice alone same closed (gap_is body slice.bytes slice.logical gap same is)
ended_slices dialect key pre body gap (slice ∷ next ∷ slices) e (alone, may, chain) is =
    let rest = ended_slices dialect key (pre ++ slice.bytes) body gap (next ∷ slices)
    (e ∙ sym (append_assoc pre slice.bytes (slices_bytes (next ∷ slices)))) chain is in
    let follow = may (λ k. cc) in
    record {
      ended = slice ∷ rest.ended;
      chain = (alone, λ some. follow, rest.chain);
      closed = (follow, rest.closed);
      spelled = ap (◌++◌ slice.bytes) rest.spelled ∙ sym (append_assoc slice.bytes (slices_bytes (next ∷ slices)) gap);
      same = λ marked (front, after, gives, others, spelled). (front, after, gives, rest.same after others, spelled);
      unmarked = λ some. rest.unmarked (λ k. cc);
    }
