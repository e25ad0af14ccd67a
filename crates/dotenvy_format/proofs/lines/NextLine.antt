-- A loop over physical lines tells the next logical line, and there is at most one.
use Rattle.std.proofs.lemmas.List.{nil_from_length}
use Rattle.std.proofs.lemmas.Bool.{false_from_ne_true}
use Rattle.std.proofs.lemmas.Bool.Decides.{nat_tests}
use Rattle.std.proofs.Common.{◌≡◌, ℕ, zero, suc, ◌≤◌, ◌<◌, Bool, true, false, ◌||◌, not, List}
use Rattle.std.proofs.Common.{[], ◌∷◌, ◌++◌, map, Option, Some, None, refl, sym, ◌∙◌, ap, arith}
use Rattle.std.proofs.Common.{append_assoc, length, take, inl, inr, ⊎_elim}
use Rattle.std.specs.Prelude.{◌==◌, ◌⊎◌, ◌≢◌}
use Rattle.std.specs.List.{flat_map, concat}
use Rattle.std.proofs.lemmas.List.{append-nil, length-append, take_all}
use Rattle.dotenvy_format.specs.Characters.{line_feed, hash, is_blank, is_quote, byte_len}
use Rattle.dotenvy_format.specs.PhysicalLines.{physical_lines, AreCut, is_whole_line, is_last_line}
use Rattle.dotenvy_format.specs.Tokens.{Token, one_character, backslash_pair, quoted, blank_pair, blank}
use Rattle.dotenvy_format.specs.Tokens.{quoted_text, token_text, tokens_text, stands_for_itself, IsToken, AreTokens}
use Rattle.dotenvy_format.specs.LogicalLine.{Ending, line_end, escaped_line_end, comment, input_end}
use Rattle.dotenvy_format.specs.LogicalLine.{ending_text, IsOneLine, IsEnding, IsWhole}
use Rattle.dotenvy_format.specs.LogicalLine.{with_text_before, joined_text, IsFirstBroken}
use Rattle.dotenvy_format.specs.LogicalLine.{Logical, Skip, HasText, StaysOpen, Broken, IsText, IsNext}
use Rattle.dotenvy_format.specs.declared.walk.LineMode.{LineMode}
use Rattle.dotenvy_format.specs.declared.walk.LineMode.TheVariants.{Outside}
use Rattle.dotenvy_format.specs.inside.Walk.{going, ended, walk}
use Rattle.std.proofs.lemmas.Bool.{eqb-true}
use Rattle.dotenvy_format.proofs.lines.Splitting.{IsGoing, walk-append, tokens_going, whole_walks}
use Rattle.dotenvy_format.proofs.lines.Splitting.{outside_tokens, going_start, going_more}
use Rattle.dotenvy_format.specs.inside.Walk.{Walk}
use Rattle.std.proofs.lemmas.List.{length-map}

-- a text, by its characters
abbrev pub HasText' : Type 0
HasText' = List ℕ

-- physical lines: the text of each, or none where it is broken
abbrev pub Lines : Type 0
Lines = List (Option HasText')

-- a line with its line feed is the first physical line, and what follows it is cut by itself
pub whole_line : (t cs : HasText') → is_whole_line t ≡ true → physical_lines (t ++ cs) ≡ t ∷ physical_lines cs
whole_line [] cs h = cc
whole_line (c ∷ t) cs h = grind (arith, nat_tests, whole_line t cs)

-- a text that is one line, with its line feed or without, is one physical line
pub last_line : (t : HasText') → is_last_line t ≡ true → physical_lines t ≡ t ∷ []
last_line [] h = cc
last_line (c ∷ t) h = grind (arith, nat_tests, last_line t)

-- a line with its line feed is one line
pub whole_last : (t : HasText') → is_whole_line t ≡ true → is_last_line t ≡ true
whole_last [] h = cc
whole_last (c ∷ t) h = grind (arith, nat_tests, whole_last t)

-- the text ends with a line feed
abbrev pub ends_line : HasText' → Bool
ends_line [] = false
ends_line (c ∷ []) = c == line_feed
ends_line (c ∷ d ∷ cs) = ends_line (d ∷ cs)

-- two texts joined, where the second isn't empty, end with a line feed just where the second does
pub ends_line-append : (xs : HasText') (c : ℕ) (cs : HasText') → ends_line (xs ++ c ∷ cs) ≡ ends_line (c ∷ cs)
ends_line-append [] c cs = refl
ends_line-append (x ∷ []) c cs = refl
ends_line-append (x ∷ y ∷ xs) c cs = ends_line-append (y ∷ xs) c cs

-- a line with its line feed ends with a line feed
pub whole_ends : (t : HasText') → is_whole_line t ≡ true → ends_line t ≡ true
whole_ends [] h = cc
whole_ends (c ∷ t) h = grind (arith, nat_tests, whole_ends t)

-- any text and then one that ends with a line feed end with it
pub ends_join : (s t : HasText') → ends_line t ≡ true → ends_line (s ++ t) ≡ true
ends_join s [] h = cc
ends_join s (c ∷ t) h = ends_line-append s c t ∙ h

-- a character is no line feed where it passes a test that this fails
no_line_feed : (test : ℕ → Bool) (c : ℕ) → test c ≡ true → test line_feed ≡ false → (c == line_feed) ≡ false
no_line_feed test c h k = false_from_ne_true _ (λ e. let f = eqb-true c line_feed e in cc)

-- a token, where it may stand, does not end with a line feed
token_ends : (t : Token) (after : HasText') → IsToken t after → ends_line (token_text t) ≡ false
token_ends (one_character c) after is = no_line_feed (λ d. not (is_blank d || stands_for_itself d)) c is refl
token_ends (backslash_pair c) after is = no_line_feed (λ d. not (d == line_feed)) c is refl
token_ends (quoted q inner) after is =
    ends_line-append (q ∷ flat_map quoted_text inner) q [] ∙ no_line_feed is_quote q is.0 refl
token_ends (blank_pair b c) after is = no_line_feed (λ d. not (d == hash || stands_for_itself d)) c is.1 refl
token_ends (blank b) after is = no_line_feed is_blank b is.0 refl

-- a row of tokens, where they may stand, does not end with a line feed
tokens_end : (ts : List Token) (after : HasText') → AreTokens ts after → ends_line (tokens_text ts) ≡ false
tokens_end [] after are = refl
tokens_end (t ∷ ts) after are =
    join (tokens_text ts) (token_ends t (tokens_text ts ++ after) are.0) (tokens_end ts after are.1)
  where
    join : (ys : HasText') → ends_line (token_text t) ≡ false → ends_line ys ≡ false →
        ends_line (token_text t ++ ys) ≡ false
    join [] h k = rw append-nil h
    join (c ∷ ys) h k = ends_line-append (token_text t) c ys ∙ k

-- a text that ends with a line feed, and in which no logical line ends, stands in quotes
pub line_goes_on : (seen : HasText') (m : LineMode) → IsGoing seen m → ends_line seen ≡ true → m ≢ Outside
line_goes_on seen m g ends is =
    let t = outside_tokens seen (rw is at g) in
    let e : true ≡ false = sym ends ∙ ap ends_line t.2 ∙ tokens_end t.0 [] t.1 in cc

-- an ending has no line feed but at its end
ending_is_one : (ending : Ending) (last : Type 0) → IsEnding ending last → IsOneLine (ending_text ending)
ending_is_one line_end last is = tt
ending_is_one escaped_line_end last is = (refl, tt)
ending_is_one (comment b []) last is = (rw (no_line_feed is_blank b is.0 refl) refl, tt)
ending_is_one (comment b (w ∷ words)) last is = (rw (no_line_feed is_blank b is.0 refl) refl, (refl, is.1))
ending_is_one input_end last is = tt

-- nothing follows the line feed of a line
nothing_more : (xs ys : HasText') → IsOneLine (xs ++ ys) → ends_line xs ≡ true → ys ≡ []
nothing_more [] ys is ends = cc
nothing_more (x ∷ []) ys is ends = grind arith
nothing_more (x ∷ z ∷ xs) ys is ends = nothing_more (z ∷ xs) ys is.1 ends

-- of two ways to cut a text in two, one front begins with the other
parts : (xs ys us vs : HasText') → xs ++ ys ≡ us ++ vs →
    ((zs : HasText') × (xs ≡ us ++ zs)) ⊎ ((z : ℕ) × (zs : HasText') × (us ≡ xs ++ z ∷ zs) × (ys ≡ (z ∷ zs) ++ vs))
parts xs ys [] vs e = inl (xs, refl)
parts [] ys (u ∷ us) vs e = inr (u, us, refl, e)
parts (x ∷ xs) ys (u ∷ us) vs e =
    let k : xs ++ ys ≡ us ++ vs = cc in let later = parts xs ys us vs k in grind arith

-- where a walk ends in a front that ends with a line feed, the logical line ends with the front
no_more : (front more : HasText') {kept k : HasText'} {last : Type 0} → IsWhole (front ++ more) kept last →
    walk Outside [] front ≡ ended k → ends_line front ≡ true → more ≡ []
no_more front more {k = k} w e ends =
    ⊎_elim
    (λ p.
    let g = tokens_going w.tokens (ending_text w.ending) w.are_tokens in
    let f : walk Outside [] (front ++ p.0) ≡ ended k = walk-append Outside [] front p.0 ∙ rw e refl in cc)
    (λ p.
    nothing_more (p.0 ∷ p.1) more (rw p.3 at (ending_is_one w.ending _ w.is_ending))
    (sym (ends_line-append (tokens_text w.tokens) p.0 p.1) ∙ rw p.2 at ends))
    (parts (tokens_text w.tokens) (ending_text w.ending) front more (sym w.spelled))

-- physical lines as bytes are cut into them are so still without the first
pub cut_rest : (l : Option HasText') (lines : Lines) → AreCut (l ∷ lines) → AreCut lines
cut_rest l lines cut = grind arith

-- physical lines as bytes are cut into them are so without those before them
pub cut_after : (front lines : Lines) → AreCut (front ++ lines) → AreCut lines
cut_after [] lines cut = cut
cut_after (l ∷ front) lines cut = cut_after front lines (cut_rest l (front ++ lines) cut)

-- where bytes are cut into lines, a first line that is a text isn't empty
cut_some : (t : HasText') (lines : Lines) → AreCut (Some t ∷ lines) → t ≢ []
cut_some t lines cut h = grind arith

-- A loop over physical lines as one function: how many lines the next logical line takes, and what it is.
-- what the end of input makes of a text: a whole logical line where the mode is outside, else an open end
abbrev pub at_input_end : LineMode → List ℕ → Logical
at_input_end Outside seen = HasText seen
at_input_end _ seen = StaysOpen seen (byte_len seen)

-- the same logical line, with one physical line more
abbrev pub one_more : ℕ × Logical → ℕ × Logical
one_more (k, next) = (suc k, next)

-- the line ends in this physical line, or it goes on in those after it from the mode that was walked to
abbrev pub after_walk : Walk → (LineMode → ℕ × Logical) → ℕ × Logical
after_walk (going m) next = one_more (next m)
after_walk (ended text) next = (1, HasText text)

-- from this mode and after the text seen: how many lines more the logical line takes, and what it is
abbrev pub next_from : LineMode → List ℕ → Lines → ℕ × Logical
next_from m seen [] = (0, at_input_end m seen)
next_from m seen (None ∷ lines) = (1, Broken)
next_from m seen (Some text ∷ lines) = after_walk (walk m seen text) (λ n. next_from n (seen ++ text) lines)

-- at the end of input a text is whole where the mode is outside, and else an open end
pub mode_ends : (m : LineMode) (seen : HasText') →
    ((m ≡ Outside) × (at_input_end m seen ≡ HasText seen))
    ⊎ ((m ≢ Outside) × (at_input_end m seen ≡ StaysOpen seen (byte_len seen)))
mode_ends Outside seen = inl (refl, refl)
mode_ends m seen = inr (λ e. cc, refl)

-- the loop passes by texts that go on
pass_texts : (m : LineMode) (seen : HasText') (ts : List HasText') (lines : Lines) (n : LineMode) →
    walk m seen (concat ts) ≡ going n →
    (next_from m seen (map Some ts ++ lines)).1 ≡ (next_from n (seen ++ concat ts) lines).1
pass_texts m seen [] lines n e = let k : m ≡ n = cc in rw (k, append-nil) refl
pass_texts m seen (t ∷ ts) lines n e =
    let walks = sym (walk-append m seen t (concat ts)) ∙ e in
    let later = λ (p : LineMode). simp append_assoc at (pass_texts p (seen ++ t) ts lines n) in grind arith

-- where the loop ends in a line of a whole logical line, that is its last line, and the same text is kept
text_ends : (seen t : HasText') (ts : List HasText') (later : Lines) {kept k : HasText'} {last : Type 0} →
    AreCut (Some t ∷ (map Some ts ++ later)) → walk Outside [] (seen ++ t) ≡ ended k →
    IsWhole ((seen ++ t) ++ concat ts) kept last → (ts ≡ []) × (k ≡ kept)
text_ends seen t [] later cut e w = let walks = whole_walks (rw append-nil at w) in grind arith
text_ends seen t (u ∷ ts) later cut e w =
    let none = ap length (no_more (seen ++ t) (concat (u ∷ ts)) w e (ends_join seen t (whole_ends t cut.0))) in
    absurd (cut_some u (map Some ts ++ later) cut.1
    (nil_from_length u (omega (arith, none, length-append u (concat ts)))))

-- the loop finds a whole logical line
text_found : (m : LineMode) (seen : HasText') (ts : List HasText') (later : Lines) {kept : HasText'} {last : Type 0} →
    IsGoing seen m → AreCut (map Some ts ++ later) → (last → later ≡ []) → IsWhole (seen ++ concat ts) kept last →
    next_from m seen (map Some ts ++ later) ≡ (length ts, HasText kept)
text_found m seen [] later g cut end w =
    let walks = whole_walks (rw append-nil at w) in grind (arith, end)
text_found m seen (t ∷ ts) later {kept = kept} g cut end w =
    let w' : IsWhole ((seen ++ t) ++ concat ts) kept _ = rw append_assoc w in
    (elim (walk m seen t) as (λ r.
    walk m seen t ≡ r →
    after_walk r (λ n. next_from n (seen ++ t) (map Some ts ++ later)) ≡ (suc (length ts), HasText kept)) [
      | going n ↦
          λ e.
          ap one_more (text_found n (seen ++ t) ts later (going_more seen m t g ∙ e)
          (cut_rest (Some t) (map Some ts ++ later) cut) end w')
      | ended k ↦
          λ e. let f = text_ends seen t ts later cut (going_more seen m t g ∙ e) w' in rw (f.0, f.1) refl
    ]) refl

-- the first so many lines are these texts, joined to this one
record Taken (lines : Lines) (count : ℕ) (text : HasText') : Type 0 where
  taken : List HasText'
  later : Lines
  are : lines ≡ map Some taken ++ later
  number : length taken ≡ count
  joins : text ≡ concat taken

-- where the first lines join to a text, none of them is broken
taken_of : (k : ℕ) (lines : Lines) (text : HasText') → k ≤ length lines → joined_text (take k lines) ≡ Some text →
    Taken lines k text
taken_of zero lines text within h =
    record { taken = []; later = lines; are = refl; number = refl; joins = let e : Some [] ≡ Some text = h in cc }
taken_of (suc k) [] text within h = absurd (omega arith)
taken_of (suc k) (None ∷ lines) text within h = cc
taken_of (suc k) (Some t ∷ lines) text within h =
    (elim (joined_text (take k lines)) as (λ j.
    joined_text (take k lines) ≡ j → with_text_before t j ≡ Some text → Taken (Some t ∷ lines) (suc k) text) [
      | None ↦ λ e f. cc
      | Some u ↦
          λ e f. let r = taken_of k lines u (omega arith) e in record {
            taken = t ∷ r.taken;
            later = r.later;
            are = ap (◌∷◌ (Some t)) r.are;
            number = ap suc r.number;
            joins = let g : t ++ u ≡ text = cc in sym g ∙ ap (◌++◌ t) r.joins;
          }
    ]) refl h

-- the lines of a logical line that is a text are texts
text_of : {lines : Lines} {k : ℕ} {kept : HasText'} (is : IsText lines k kept) → Taken lines k is.text
text_of {lines = lines} {k = k} is = taken_of k lines is.text is.within is.joins

-- where there are lines, a logical line that is a text takes one of them at least
pub some_lines : (lines : Lines) (k : ℕ) (kept : HasText') → lines ≢ [] → IsText lines k kept → 0 < k
some_lines lines (suc k) kept some is = omega arith
some_lines [] zero kept some is = absurd (some refl)
some_lines (l ∷ lines) zero kept some is =
    let e : Some [] ≡ Some is.text = is.joins in
    let f : is.text ≡ [] = cc in
    let walks = whole_walks (rw f at is.whole) in grind arith

-- equal pairs have equal parts
pub same_parts : {j k : ℕ} {o p : Logical} → ◌≡◌ {A = ℕ × Logical} (j, o) (k, p) → (j ≡ k) × (o ≡ p)
same_parts e = (ap (λ r. r.0) e, ap (λ r. r.1) e)

-- the loop finds a logical line that is a text
text_next : (lines : Lines) (k : ℕ) (kept : HasText') → AreCut lines → IsText lines k kept →
    next_from Outside [] lines ≡ (k, HasText kept)
text_next lines k kept cut is =
    let t = text_of is in
    ap (next_from Outside []) t.are
    ∙ text_found Outside [] t.taken t.later going_start (rw t.are at cut)
    (λ last.
    nil_from_length t.later
    (omega (arith, t.number, ap length t.are, length-append (map Some t.taken) t.later, length-map t.taken Some)))
    (rw t.joins at is.whole)
    ∙ rw t.number refl

-- where a logical line that is a text begins with texts that go on, it is what the loop makes of the lines after them
pub text_kind : (taken : List HasText') (lines : Lines) (m : LineMode) (j : ℕ) (kept : HasText') →
    IsGoing (concat taken) m → AreCut (map Some taken ++ lines) → IsText (map Some taken ++ lines) j kept →
    HasText kept ≡ (next_from m (concat taken) lines).1
text_kind taken lines m j kept g cut is =
    sym (same_parts (text_next (map Some taken ++ lines) j kept cut is)).1 ∙ pass_texts Outside [] taken lines m g

-- the first broken line is one of the lines
pub broken_within : (lines : Lines) (k : ℕ) → IsFirstBroken k lines → k ≤ length lines
broken_within [] k h = absurd h
broken_within (None ∷ lines) k h = omega (arith, h)
broken_within (Some t ∷ lines) k (i, e, h) = let w = broken_within lines i h in omega (arith, w, e)

-- the first broken line is after texts before other lines
broken_after : (ts : List HasText') (lines : Lines) (k : ℕ) → IsFirstBroken k (map Some ts ++ lines) → length ts < k
broken_after [] [] k h = absurd h
broken_after [] (None ∷ lines) k h = omega (arith, h)
broken_after [] (Some t ∷ lines) k (i, e, h) = omega (arith, e)
broken_after (t ∷ ts) lines k (i, e, h) = let w = broken_after ts lines i h in omega (arith, w, e)

-- there is one first broken line at most
one_broken : (lines : Lines) (j k : ℕ) → IsFirstBroken j lines → IsFirstBroken k lines → j ≡ k
one_broken [] j k a b = absurd a
one_broken (l ∷ lines) j k a b = grind (arith, one_broken lines)

-- a logical line that is a text ends before the first broken line
before_broken : (lines : Lines) (j k : ℕ) (kept : HasText') → IsText lines j kept → IsFirstBroken k lines → j < k
before_broken lines j k kept is h =
    let t = text_of is in omega (arith, t.number, broken_after t.taken t.later k (rw t.are at h))

-- lines of which one is broken join to no text
not_joined : (lines : Lines) (k : ℕ) (t : HasText') → IsFirstBroken k lines → joined_text lines ≢ Some t
not_joined lines k t h e =
    let r = taken_of (length lines) lines t (omega arith) (rw (take_all (length lines) lines (omega arith)) e) in
    let w = broken_after r.taken r.later k (rw r.are at h) in
    omega (arith, r.number, w, broken_within lines k h)

-- where there are lines, they have one next logical line at most, and it takes one count of them
pub one_next : (lines : Lines) (j k : ℕ) (a b : Logical) → lines ≢ [] → AreCut lines → IsNext lines j a →
    IsNext lines k b → (j ≡ k) × (a ≡ b)
one_next lines j k Skip b some cut x y = grind arith
one_next lines j k a Skip some cut x y = grind arith
one_next lines j k (HasText s) (HasText t) some cut x y =
    same_parts (sym (text_next lines j s cut x.1) ∙ text_next lines k t cut y.1)
one_next lines j k (HasText s) (StaysOpen t n) some cut x y = absurd (y.3 j s x.1)
one_next lines j k (HasText s) Broken some cut x y = absurd (y.2 j s (before_broken lines j k s x.1 y.1) x.1)
one_next lines j k (StaysOpen s m) (HasText t) some cut x y = absurd (x.3 k t y.1)
one_next lines j k (StaysOpen s m) (StaysOpen t n) some cut x y = grind arith
one_next lines j k (StaysOpen s m) Broken some cut x y = absurd (not_joined lines k s y.1 x.2)
one_next lines j k Broken (HasText t) some cut x y = absurd (x.2 k t (before_broken lines k j t y.1 x.1) y.1)
one_next lines j k Broken (StaysOpen t n) some cut x y = absurd (not_joined lines j t x.1 y.2)
one_next lines j k Broken Broken some cut x y = (one_broken lines j k x.1 y.1, refl)
