-- A last line without its line feed, and the same line with an end after it.
use Rattle.std.proofs.Common.{◌≡◌, ◌≢◌, ℕ, suc, ◌<◌, ◌≤◌, Bool, true, false, not, List, [], ◌∷◌, ◌++◌}
use Rattle.std.proofs.Common.{map, refl, sym, ◌∙◌, ap, append_assoc, append-nil, length, length-append}
use Rattle.std.proofs.Common.{Option, Some, None, cond, inl, inr, arith, get_or}
use Rattle.std.specs.Prelude.{◌==◌, ◌⊎◌, IsUtf8, encode_utf8_all}
use Rattle.std.specs.Char.{is_whitespace}
use Rattle.std.specs.Str.{chars, drop_trailing_whitespace, is_utf8, skip_leading_whitespace}
use Rattle.std.proofs.Math.Seq.{take-append_seam}
use Rattle.std.proofs.Math.Utf8.{encode}
use Rattle.std.proofs.lemmas.Bool.{cases_Bool, eqb-true, false_from_ne_true}
use Rattle.std.proofs.lemmas.Grind.{flat_map-append}
use Rattle.std.proofs.lemmas.List.{map-append, take-append-le}
use Rattle.std.proofs.lemmas.Str.{IsCharBoundary-before_ascii, IsUtf8-append, IsUtf8-from_is_utf8, IsUtf8-take}
use Rattle.std.proofs.lemmas.Str.{chars-append, is_utf8-from_IsUtf8}
use Rattle.dotenvy_format.specs.Characters.{backslash, begins_with, carriage_return, hash, line_feed}
use Rattle.dotenvy_format.specs.PhysicalLines.{is_whole_line, line_text, line_texts, no_line_feed, onto_first}
use Rattle.dotenvy_format.specs.PhysicalLines.{physical_lines}
use Rattle.dotenvy_format.specs.Tokens.{AreTokens, IsToken, Token, backslash_pair, blank, blank_pair, is_before_break}
use Rattle.dotenvy_format.specs.Tokens.{one_character, quoted, token_text, tokens_text}
use Rattle.dotenvy_format.specs.LogicalLine.{Ending, line_end, escaped_line_end, comment, input_end, ending_text}
use Rattle.dotenvy_format.specs.LogicalLine.{IsEnding, IsFirstBroken, IsOneLine, IsSkipped, IsText, IsWhole}
use Rattle.dotenvy_format.specs.LogicalLine.{kept_text, without_carriage_return}
use Rattle.dotenvy_format.proofs.lines.Cuts.{cut_step, lines_some}
use Rattle.dotenvy_format.proofs.lines.NextLine.{Lines, ends_line, ends_line-append, last_line, whole_last}
use Rattle.dotenvy_format.proofs.lines.EntriesOnce.{one_last}
use Rattle.dotenvy_editor.specs.Ends.{ends_in, feed, last_end, last_end_from, return_feed}
use Rattle.dotenvy_editor.specs.Slices.{line_count}
use Rattle.dotenvy_editor.proofs.SlicesAlone.{texts_count, whole_moves}
use Rattle.dotenvy_editor.proofs.SliceTexts.{all_first}

-- the end of a line, with a carriage return or without
abbrev pub gap_of : Bool → List ℕ
gap_of false = feed
gap_of true = return_feed

-- the end of the last line that has one is one of the two
last_end_kind : (end : List ℕ) (c : ℕ) (bytes : List ℕ) → (b : Bool) × (end ≡ gap_of b) →
    (b : Bool) × (last_end_from end c bytes ≡ gap_of b)
last_end_kind end c [] is = is
last_end_kind end c (d ∷ bytes) is =
    elim (cases_Bool (d == line_feed)) [
      | inl h ↦ elim (cases_Bool (c == carriage_return)) [
        | inl r ↦ rw (h, r) (last_end_kind return_feed d bytes (true, refl))
        | inr r ↦ rw (h, r) (last_end_kind feed d bytes (false, refl))
      ]
      | inr h ↦ rw h (last_end_kind end d bytes is)
    ]

pub last_end_is : (bytes : List ℕ) → (b : Bool) × (last_end bytes ≡ gap_of b)
last_end_is bytes = last_end_kind feed 0 bytes (false, refl)

-- The last physical line.
-- bytes without a line feed at their end: whole lines, and then a line without its line feed
pub record IsCutLast (bytes : List ℕ) : Type 0 where
  pub front : List ℕ
  pub last : List ℕ
  pub joins : bytes ≡ front ++ last
  pub some : last ≢ []
  pub none : no_line_feed last ≡ true
  pub ends : (more : List ℕ) → physical_lines (front ++ more) ≡ physical_lines front ++ physical_lines more

-- with one more byte in front bytes are cut in the same way
cut_more : (c : ℕ) (bytes front last : List ℕ) → bytes ≡ front ++ last → last ≢ [] → no_line_feed last ≡ true →
    ((more : List ℕ) → physical_lines (front ++ more) ≡ physical_lines front ++ physical_lines more) →
    IsCutLast (c ∷ bytes)
cut_more c bytes [] last e some none ends = elim (cases_Bool (c == line_feed)) [
  | inl h ↦
      record {
        front = c ∷ [];
        last = last;
        joins = ap (◌∷◌ c) e;
        some = some;
        none = none;
        ends = λ more. rw h refl;
      }
  | inr h ↦
      record {
        front = [];
        last = c ∷ last;
        joins = ap (◌∷◌ c) e;
        some = λ k. cc;
        none = rw h none;
        ends = λ more. refl;
      }
]
cut_more c bytes (d ∷ front) last e some none ends = record {
  front = c ∷ d ∷ front;
  last = last;
  joins = ap (◌∷◌ c) e;
  some = some;
  none = none;
  ends =
      λ more.
      cut_step c (c == line_feed) (physical_lines (d ∷ front)) (physical_lines more)
      (physical_lines (d ∷ (front ++ more))) (lines_some d front) (ends more);
}

-- some bytes without a line feed at their end are cut so
pub cut_last : (bytes : List ℕ) → bytes ≢ [] → ends_line bytes ≡ false → IsCutLast bytes
cut_last [] some h = absurd (some refl)
cut_last (c ∷ []) some h = record {
  front = [];
  last = c ∷ [];
  joins = refl;
  some = some;
  none = rw h refl;
  ends = λ more. refl;
}
cut_last (c ∷ d ∷ bytes) some h =
    let rest = cut_last (d ∷ bytes) (λ e. cc) h in
    cut_more c (d ∷ bytes) rest.front rest.last rest.joins rest.some rest.none rest.ends

-- a line with an end after it is one line
whole_gap : (line : List ℕ) (b : Bool) → no_line_feed line ≡ true → is_whole_line (line ++ gap_of b) ≡ true
whole_gap [] false h = refl
whole_gap [] true h = refl
whole_gap (c ∷ []) false h = let p = all_first (λ d. not (d == line_feed)) c [] h in rw p.0 refl
whole_gap (c ∷ []) true h = let p = all_first (λ d. not (d == line_feed)) c [] h in rw p.0 refl
whole_gap (c ∷ d ∷ line) b h =
    let p = all_first (λ d. not (d == line_feed)) c (d ∷ line) h in rw (p.0, whole_gap (d ∷ line) b p.1) refl

-- some bytes without a line feed are one physical line
one_line : (line : List ℕ) → line ≢ [] → no_line_feed line ≡ true → physical_lines line ≡ line ∷ []
one_line [] some h = absurd (some refl)
one_line (c ∷ line) some h = last_line (c ∷ line) (one_last c line h)

-- the texts of whole lines and of one line are those of the former, and then the latter
texts_last : (front last : List ℕ) →
    physical_lines (front ++ last) ≡ physical_lines front ++ physical_lines last →
    physical_lines last ≡ last ∷ [] → line_texts (front ++ last) ≡ line_texts front ++ line_text last ∷ []
texts_last front last ends one =
    ap (map line_text) (ends ∙ ap (◌++◌ (physical_lines front)) one)
    ∙ map-append line_text (physical_lines front) (last ∷ [])

-- the texts of bytes that are cut so, as they are and with an end
pub texts_cut : {bytes : List ℕ} (cut : IsCutLast bytes) →
    line_texts bytes ≡ line_texts cut.front ++ line_text cut.last ∷ []
texts_cut {bytes} cut =
    ap line_texts cut.joins
    ∙ texts_last cut.front cut.last (cut.ends cut.last) (one_line cut.last cut.some cut.none)

pub texts_gap : {bytes : List ℕ} (cut : IsCutLast bytes) (b : Bool) →
    line_texts (bytes ++ gap_of b) ≡ line_texts cut.front ++ line_text (cut.last ++ gap_of b) ∷ []
texts_gap {bytes} cut b =
    let line = cut.last ++ gap_of b in
    ap line_texts (ap (λ t. t ++ gap_of b) cut.joins ∙ append_assoc cut.front cut.last (gap_of b))
    ∙ texts_last cut.front line (cut.ends line) (last_line line (whole_last line (whole_gap cut.last b cut.none)))

-- the count of lines stays
pub count_gap : {bytes : List ℕ} (cut : IsCutLast bytes) (b : Bool) → line_count (bytes ++ gap_of b) ≡ line_count bytes
count_gap {bytes} cut b =
    let front = line_texts cut.front in
    let old = length-append front (line_text cut.last ∷ []) in
    let new = length-append front (line_text (cut.last ++ gap_of b) ∷ []) in
    let e = ap length (texts_cut cut) in
    let f = ap length (texts_gap cut b) in
    omega (arith, e, f, old, new, texts_count bytes, texts_count (bytes ++ gap_of b))

-- Whether the line is UTF-8.
-- an end is UTF-8, and spells itself
pub gap_spells : (b : Bool) → encode_utf8_all (gap_of b) ≡ gap_of b
unfolding encode
gap_spells true = refl
gap_spells false = refl

pub gap_text : (b : Bool) → IsUtf8 (gap_of b)
gap_text true = (gap_of true, (refl, gap_spells true))
gap_text false = (gap_of false, (refl, gap_spells false))

-- an end is these characters
gap_chars : (b : Bool) → chars (gap_of b) ≡ gap_of b
unfolding chars
gap_chars true = refl
gap_chars false = refl

-- an end begins with an ASCII byte
gap_first : (line : List ℕ) (b : Bool) → get_or (line ++ gap_of b) (length line) 0 < 128
gap_first [] true = omega arith
gap_first [] false = omega arith
gap_first (c ∷ line) b = gap_first line b

-- a line is UTF-8 where it is so with an end
without_gap : (line : List ℕ) (b : Bool) → IsUtf8 (line ++ gap_of b) → IsUtf8 line
without_gap line b u =
    let size = length-append line (gap_of b) in
    let more : 0 < length (gap_of b) = elim b as (λ b. 0 < length (gap_of b)) [
      | true ↦ omega arith
      | false ↦ omega arith
    ] in
    let boundary =
    IsCharBoundary-before_ascii (line ++ gap_of b) (length line) (omega arith) (gap_first line b) in
    rw (take-append_seam line (gap_of b)) at (IsUtf8-take (line ++ gap_of b) (length line) u boundary)

-- the text of a line with an end
abbrev pub gapped : Bool → Option (List ℕ) → Option (List ℕ)
gapped b None = None
gapped b (Some text) = Some (text ++ gap_of b)

-- a line with an end has its text with the end, if it has one
pub text_gap : (line : List ℕ) (b : Bool) → line_text (line ++ gap_of b) ≡ gapped b (line_text line)
text_gap line b = elim (cases_Bool (is_utf8 line)) [
  | inl h ↦
      let u = IsUtf8-from_is_utf8 line h in
      let both = is_utf8-from_IsUtf8 (line ++ gap_of b) (IsUtf8-append line (gap_of b) u (gap_text b)) in
      rw (h, both, chars-append line (gap_of b) u, gap_chars b) refl
  | inr h ↦
      let none : is_utf8 (line ++ gap_of b) ≡ false = false_from_ne_true _ (λ e.
      let u = without_gap line b (IsUtf8-from_is_utf8 (line ++ gap_of b) e) in
      let yes = is_utf8-from_IsUtf8 line u in cc) in
      rw (h, none) refl
]

-- Tokens before an end.
-- a token may stand before another text too, before which a blank stands alone where it did
token_move : (token : Token) (after other : List ℕ) → IsToken token after →
    (is_before_break after ≡ true → is_before_break other ≡ true) → IsToken token other
token_move (one_character c) after other is alone = is
token_move (backslash_pair c) after other is alone = is
token_move (quoted quote inner) after other is alone = is
token_move (blank_pair b c) after other is alone = is
token_move (blank b) after other is alone = (is.0, alone is.1)

tokens_move : (tokens : List Token) (after other : List ℕ) → AreTokens tokens after →
    (is_before_break after ≡ true → is_before_break other ≡ true) → AreTokens tokens other
tokens_move [] after other are alone = tt
tokens_move (token ∷ tokens) after other are alone = (
  token_move token (tokens_text tokens ++ after) (tokens_text tokens ++ other) are.0 (before (tokens_text tokens)),
  tokens_move tokens after other are.1 alone,
)
  where
    before : (xs : List ℕ) → is_before_break (xs ++ after) ≡ true → is_before_break (xs ++ other) ≡ true
    before [] h = alone h
    before (c ∷ xs) h = h

-- one more token may be after tokens
tokens_more : (tokens : List Token) (token : Token) (after : List ℕ) → AreTokens tokens (token_text token ++ after) →
    IsToken token after → AreTokens (tokens ++ token ∷ []) after
tokens_more [] token after are is = (is, tt)
tokens_more (x ∷ tokens) token after are is =
    let same : tokens_text (tokens ++ token ∷ []) ++ after ≡ tokens_text tokens ++ (token_text token ++ after) =
    simp (flat_map-append, append-nil, append_assoc) in
    (rw same are.0, tokens_more tokens token after are.1 is)

-- a carriage return at the end goes
return_goes : (xs : List ℕ) → without_carriage_return (xs ++ carriage_return ∷ []) ≡ xs
return_goes [] = refl
return_goes (x ∷ xs) = grind (arith, return_goes xs)

-- the words of a comment without a line feed are one line with an end
words_gap : (words : List ℕ) (b : Bool) → IsOneLine words → ends_line words ≡ false → IsOneLine (words ++ gap_of b)
words_gap [] false one h = tt
words_gap [] true one h = (refl, tt)
words_gap (c ∷ []) false one h = (rw h refl, tt)
words_gap (c ∷ []) true one h = (rw h refl, (refl, tt))
words_gap (c ∷ d ∷ words) b one h = (one.0, words_gap (d ∷ words) b one.1 h)

-- what is kept of a last line with an end: the same, or that without a carriage return
abbrev pub KeepsSame : Bool → (text kept other : List ℕ) → Type 0
KeepsSame b text kept other =
    (other ≡ kept) ⊎ ((b ≡ false) × (kept ≡ text) × (other ≡ without_carriage_return kept))

-- a whole logical line without a line feed at its end is one with an end
pub ended_whole : (text kept : List ℕ) (b : Bool) → IsWhole text kept (Unit {0}) → ends_line text ≡ false →
    (other : List ℕ) × IsWhole (text ++ gap_of b) other (Unit {0}) × KeepsSame b text kept other
ended_whole text kept b w none = at w.ending w.are_tokens w.is_ending w.spelled w.cut b
  where
    ts : List ℕ
    ts = tokens_text w.tokens

    at : (ending : Ending) → AreTokens w.tokens (ending_text ending) → IsEnding ending (Unit {0}) →
        text ≡ tokens_text w.tokens ++ ending_text ending → kept ≡ kept_text (tokens_text w.tokens) ending →
        (b : Bool) →
        (other : List ℕ) × IsWhole (text ++ gap_of b) other (Unit {0}) × KeepsSame b text kept other
    at line_end are is spelled cut b =
        let ends = ends_line-append (tokens_text w.tokens) line_feed [] in
        absurd (let e = ap ends_line spelled in let f : false ≡ true = sym none ∙ e ∙ ends in cc)
    at escaped_line_end are is spelled cut b =
        let ends = ends_line-append (tokens_text w.tokens) backslash (line_feed ∷ []) in
        absurd (let e = ap ends_line spelled in let f : false ≡ true = sym none ∙ e ∙ ends in cc)
    at (comment c words) are is spelled cut b =
        let ends = ends_line-append (tokens_text w.tokens) c (hash ∷ words) in
        let last : ends_line (hash ∷ words) ≡ false = sym ends ∙ sym (ap ends_line spelled) ∙ none in (
          kept,
          record {
            tokens = w.tokens;
            ending = comment c (words ++ gap_of b);
            are_tokens =
                tokens_move w.tokens (c ∷ hash ∷ words) (c ∷ hash ∷ (words ++ gap_of b)) are (λ h. h);
            is_ending = (is.0, words_gap words b is.1 (words_end words last));
            spelled = rw (spelled, append_assoc) refl;
            cut = cut;
          },
          inl refl,
        )
      where
        words_end : (words : List ℕ) → ends_line (hash ∷ words) ≡ false → ends_line words ≡ false
        words_end [] h = refl
        words_end (d ∷ words) h = h
    at input_end are is spelled cut false = (
      without_carriage_return (tokens_text w.tokens),
      record {
        tokens = w.tokens;
        ending = line_end;
        are_tokens = tokens_move w.tokens [] (line_feed ∷ []) are (λ h. cc);
        is_ending = tt;
        spelled = rw (spelled, append-nil) refl;
        cut = refl;
      },
      inr (refl, cut ∙ sym (spelled ∙ append-nil (tokens_text w.tokens)), ap without_carriage_return (sym cut)),
    )
    at input_end are is spelled cut true =
        let return = one_character carriage_return in
        let told : tokens_text (w.tokens ++ return ∷ []) ≡ tokens_text w.tokens ++ carriage_return ∷ [] =
        simp (flat_map-append, append-nil) in (
          kept,
          record {
            tokens = w.tokens ++ return ∷ [];
            ending = line_end;
            are_tokens =
                tokens_more w.tokens return (line_feed ∷ [])
                (tokens_move w.tokens [] (carriage_return ∷ line_feed ∷ []) are (λ h. cc)) refl;
            is_ending = tt;
            spelled = rw (spelled, told, append-nil, append_assoc) refl;
            cut = rw (told, return_goes) cut;
          },
          inl refl,
        )

-- Whether the line is skipped.
-- the first line is a comment as a whole
abbrev comment_line : List ℕ → Bool
comment_line [] = false
comment_line (c ∷ text) = cond (c == line_feed) false (cond (is_whitespace c) (comment_line text) (c == hash))

-- the first of these lines is a comment
abbrev starts_comment : List (List ℕ) → Bool
starts_comment [] = false
starts_comment (line ∷ lines) = begins_with hash (skip_leading_whitespace line)

-- with a character in front the first line is a comment just where the test says so
onto_comment : (c : ℕ) (lines : List (List ℕ)) (b : Bool) → starts_comment lines ≡ b →
    starts_comment (onto_first c lines) ≡ cond (is_whitespace c) b (c == hash)
onto_comment c [] b h = elim (cases_Bool (is_whitespace c)) [ inl w ↦ rw (w, ← h) refl | inr w ↦ rw w refl ]
onto_comment c (line ∷ lines) b h =
    elim (cases_Bool (is_whitespace c)) [ inl w ↦ rw (w, ← h) refl | inr w ↦ rw w refl ]

-- the first line of a text is a comment just where the test says so
first_comment : (text : List ℕ) → starts_comment (physical_lines text) ≡ comment_line text
first_comment [] = refl
first_comment (c ∷ text) = elim (cases_Bool (c == line_feed)) [
  | inl h ↦ let e = eqb-true c line_feed h in rw e refl
  | inr h ↦ rw h (onto_comment c (physical_lines text) (comment_line text) (first_comment text))
]

-- an end makes no line a comment
comment_gap : (text : List ℕ) (b : Bool) → comment_line (text ++ gap_of b) ≡ comment_line text
comment_gap [] true = refl
comment_gap [] false = refl
comment_gap (c ∷ text) b = rw (comment_gap text b) refl

-- lines are skipped just where the first one is a comment
skipped_is : (lines : List (List ℕ)) → IsSkipped (map Some lines) → starts_comment lines ≡ true
skipped_is [] h = absurd h
skipped_is (line ∷ lines) h = h

is_skipped : (lines : List (List ℕ)) → starts_comment lines ≡ true → IsSkipped (map Some lines)
is_skipped [] h = cc
is_skipped (line ∷ lines) h = h

-- a text with an end is skipped only where it is so without
pub skipped_gap : (text : List ℕ) (b : Bool) → IsSkipped (map Some (physical_lines (text ++ gap_of b))) →
    IsSkipped (map Some (physical_lines text))
skipped_gap text b h =
    is_skipped (physical_lines text)
    (first_comment text ∙ sym (comment_gap text b) ∙ sym (first_comment (text ++ gap_of b))
    ∙ skipped_is (physical_lines (text ++ gap_of b)) h)

-- a comment stays one before more
pub comment_more : (text more : List ℕ) → begins_with hash (skip_leading_whitespace text) ≡ true →
    begins_with hash (skip_leading_whitespace (text ++ more)) ≡ true
comment_more [] more h = cc
comment_more (c ∷ text) more h = elim (cases_Bool (is_whitespace c)) [
  | inl w ↦ rw w (comment_more text more (rw w at h))
  | inr w ↦ rw w (rw w at h)
]

-- White space at the end.
-- a carriage return at the end is white space there
pub trim_return : (text : List ℕ) →
    drop_trailing_whitespace (without_carriage_return text) ≡ drop_trailing_whitespace text
trim_return [] = refl
trim_return (c ∷ []) = elim (cases_Bool (c == carriage_return)) [
  | inl h ↦ let e = eqb-true c carriage_return h in rw e refl
  | inr h ↦ rw h refl
]
trim_return (c ∷ d ∷ text) = rw (trim_return (d ∷ text)) refl

-- a text without a carriage return at its end is the same without it
pub no_return : (text : List ℕ) → ends_in carriage_return text ≡ false → without_carriage_return text ≡ text
no_return [] h = refl
no_return (c ∷ []) h = rw h refl
no_return (c ∷ d ∷ text) h = ap (◌∷◌ c) (no_return (d ∷ text) h)

-- Broken lines.
-- the last line, as the first broken one, is it where another broken line is in its place
pub broken_other : (front : Lines) (old new : Option (List ℕ)) → (old ≡ None → new ≡ None) →
    IsFirstBroken (suc (length front)) (front ++ old ∷ []) → IsFirstBroken (suc (length front)) (front ++ new ∷ [])
broken_other [] None new same h = rw (same refl) refl
broken_other [] (Some text) new same h = absurd h.2
broken_other (None ∷ front) old new same h = absurd (omega (arith, h))
broken_other (Some text ∷ front) old new same (earlier, e, h) =
    let is : earlier ≡ suc (length front) = omega (arith, e) in
    (suc (length front), refl, broken_other front old new same (rw is at h))

-- fewer lines are a text where others are after them
pub text_other : (front : Lines) (old new : Option (List ℕ)) (k : ℕ) (kept : List ℕ) → k ≤ length front →
    IsText (front ++ old ∷ []) k kept → IsText (front ++ new ∷ []) k kept
text_other front old new k kept le is =
    let a = length-append front (old ∷ []) in
    let b = length-append front (new ∷ []) in
    record {
      text = is.text;
      within = omega arith;
      joins = rw (take-append-le k front (new ∷ []) le) (rw (take-append-le k front (old ∷ []) le) at is.joins);
      whole = whole_moves (λ e. absurd (omega (arith, e))) is.whole;
    }
