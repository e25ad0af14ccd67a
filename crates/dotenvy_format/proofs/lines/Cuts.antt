-- Physical lines: of joined texts, and of a text's bytes.
use Rattle.std.specs.Prelude.{◌≢◌}
use Rattle.std.proofs.Common.{inl, inr}
use Rattle.std.proofs.lemmas.Bool.{and_parts, cases_Bool}
use Rattle.std.proofs.Common.{◌≡◌, ℕ, ◌<◌, Bool, true, false, ◌&&◌, not, cond, List, [], ◌∷◌}
use Rattle.std.proofs.Common.{◌++◌, map, Some, refl, sym, ◌∙◌, ap, arith, length}
use Rattle.std.specs.Prelude.{◌==◌, encode_utf8_all}
use Rattle.std.specs.List.{concat}
use Rattle.std.proofs.lemmas.List.{append-nil}
use Rattle.std.proofs.lemmas.List.Folds.{list_all-append}
use Rattle.std.proofs.lemmas.Bool.Decides.{nat_tests}
use Rattle.std.proofs.lemmas.Str.{encode_ascii, chars-encodes, is_utf8-from_IsUtf8}
use Rattle.std.proofs.lemmas.Str.{length-encode, len_utf8_bounds}
use Rattle.std.proofs.Math.Utf8.{encode, scalar, scalars}
use Rattle.dotenvy_format.specs.PhysicalLines.{no_line_feed, physical_lines, onto_first, line_text, line_texts}
use Rattle.dotenvy_format.specs.LogicalLine.{joined_text, with_text_before}
use Rattle.std.proofs.lemmas.Bool.{eqb-true}

-- where a character is no line feed and a test holds, so do both
pub after_first : (c : ℕ) (w : Bool) → (not (c == 10) && w) ≡ true → ((c == 10) ≡ false) × (w ≡ true)
after_first c w h = grind (arith, nat_tests)

-- a text that has a character has a physical line
pub lines_some : (c : ℕ) (cs : List ℕ) → physical_lines (c ∷ cs) ≢ []
lines_some c cs e = grind arith

-- a character put before lines, as a separate one or onto the first, leaves the lines after them as they are
pub cut_step : (c : ℕ) (b : Bool) (xss yss zss : List (List ℕ)) → xss ≢ [] → zss ≡ xss ++ yss →
    cond b ((c ∷ []) ∷ zss) (onto_first c zss) ≡ cond b ((c ∷ []) ∷ xss) (onto_first c xss) ++ yss
cut_step c b xss yss zss some h = grind arith

-- a text that ends with a line feed has a physical line
lines_some_end : (xs : List ℕ) → physical_lines (xs ++ 10 ∷ []) ≢ []
lines_some_end [] = lines_some 10 []
lines_some_end (c ∷ xs) = lines_some c (xs ++ 10 ∷ [])

-- after a line feed a new line begins
pub lines-append : (xs ys : List ℕ) →
    physical_lines ((xs ++ 10 ∷ []) ++ ys) ≡ physical_lines (xs ++ 10 ∷ []) ++ physical_lines ys
lines-append [] ys = refl
lines-append (c ∷ xs) ys =
    cut_step c (c == 10) (physical_lines (xs ++ 10 ∷ [])) (physical_lines ys) (physical_lines ((xs ++ 10 ∷ []) ++ ys))
    (lines_some_end xs) (lines-append xs ys)

-- the lines joined are the text
pub concat-lines : (cs : List ℕ) → concat (physical_lines cs) ≡ cs
concat-lines [] = refl
concat-lines (c ∷ cs) = grind (arith, concat-lines cs)

-- the joined text of lines, none of which is broken, is these lines one after another
pub joined-texts : (xss : List (List ℕ)) → joined_text (map Some xss) ≡ Some (concat xss)
joined-texts [] = refl
joined-texts (xs ∷ xss) = ap (with_text_before xs) (joined-texts xss)

-- The lines of a text's bytes.
-- a line feed is one byte, which is its code, before whatever bytes follow
pub ten : (c : ℕ) (more : List ℕ) → (c == 10) ≡ true → encode c ++ more ≡ 10 ∷ more
ten c more h = rw (eqb-true c 10 h, encode_ascii 10 (omega arith)) refl

-- a character has a byte
pub encode_some : (c : ℕ) → 0 < length (encode c)
encode_some c = let h = (len_utf8_bounds c).0 in omega (arith, length-encode c)

-- the bytes of a character other than a line feed are no line feeds
pub encode_none : (c : ℕ) → (c == 10) ≡ false → no_line_feed (encode c) ≡ true
unfolding encode
encode_none c h = grind (arith, nat_tests)

-- lines with bytes put onto the front of the first
abbrev with_front : List ℕ → List (List ℕ) → List (List ℕ)
with_front bs [] = bs ∷ []
with_front bs (xs ∷ xss) = (bs ++ xs) ∷ xss

-- bytes without a line feed, if there are any, are at the start of the first line of what follows them
lines-front : (bs rest : List ℕ) → 0 < length bs → no_line_feed bs ≡ true →
    physical_lines (bs ++ rest) ≡ with_front bs (physical_lines rest)
lines-front [] rest some h = absurd (omega arith)
lines-front (b ∷ []) rest some h = rw (after_first b true h).0 (grind arith)
lines-front (b ∷ c ∷ bs) rest some h =
    let e = after_first b (no_line_feed (c ∷ bs)) h in
    rw (e.0, lines-front (c ∷ bs) rest (omega arith) e.1) (grind arith)

-- a character's bytes put onto the bytes of lines are the bytes of the lines with the character put on
onto-encodes : (c : ℕ) (xss : List (List ℕ)) →
    with_front (encode c) (map encode_utf8_all xss) ≡ map encode_utf8_all (onto_first c xss)
onto-encodes c xss = grind (arith, append-nil (encode c))

-- the physical lines of a text's bytes are the bytes of the text's physical lines
pub lines-encodes : (cs : List ℕ) → physical_lines (encode_utf8_all cs) ≡ map encode_utf8_all (physical_lines cs)
lines-encodes [] = refl
lines-encodes (c ∷ cs) =
    elim (cases_Bool (c == 10)) [
      | inl h ↦ rw (h, ten c (encode_utf8_all cs) h, ten c [] h, lines-encodes cs) refl
      | inr h ↦
          rw (h, ← onto-encodes c (physical_lines cs), ← lines-encodes cs)
          (lines-front (encode c) (encode_utf8_all cs) (encode_some c) (encode_none c h))
    ]

-- the bytes of Unicode scalar values are no broken line, and spell these values
pub text-encodes : (cs : List ℕ) → scalars cs ≡ true → line_text (encode_utf8_all cs) ≡ Some cs
text-encodes cs h = rw (is_utf8-from_IsUtf8 (encode_utf8_all cs) (cs, (h, refl)), chars-encodes cs h) refl

-- the bytes of lines of Unicode scalar values are no broken lines, and spell these lines
texts-encodes : (xss : List (List ℕ)) → scalars (concat xss) ≡ true →
    map line_text (map encode_utf8_all xss) ≡ map Some xss
texts-encodes [] h = refl
texts-encodes (xs ∷ xss) h =
    let e = and_parts (scalars xs) (scalars (concat xss)) (sym (list_all-append scalar xs (concat xss)) ∙ h) in
    rw (text-encodes xs e.0, texts-encodes xss e.1) refl

-- the physical lines of a text's bytes are not broken, and spell the text's physical lines
pub line_texts-encodes : (cs : List ℕ) → scalars cs ≡ true →
    line_texts (encode_utf8_all cs) ≡ map Some (physical_lines cs)
line_texts-encodes cs h = ap (map line_text) (lines-encodes cs) ∙ texts-encodes (physical_lines cs) (rw concat-lines h)
