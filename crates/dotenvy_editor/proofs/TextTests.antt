-- Tests on texts: whether they have a character, end in it, and what follows it.
use Rattle.std.proofs.Common.{◌≡◌, ◌≢◌, ℕ, ◌<◌, Bool, true, false, ◌||◌, not, List, [], ◌∷◌, ◌++◌, refl, sym}
use Rattle.std.proofs.Common.{◌∙◌, ◌-◌, ap, arith, length, take, drop}
use Rattle.std.specs.Prelude.{◌==◌, None}
use Rattle.std.specs.Bool.{MatchBool}
use Rattle.std.specs.Char.{encode_utf8}
use Rattle.std.specs.List.{list_all}
use Rattle.std.specs.Str.{chars, encode_utf8_all, IsCharBoundary, IsUtf8}
use Rattle.std.specs.Str.Pattern.{FindsChar, FindsCharSuffix, HasCharAt, HasMatch, HasSuffixMatch}
use Rattle.std.specs.Str.Pattern.{SplitsAroundMatch, StripsSuffix}
use Rattle.std.proofs.lemmas.Bool.{and_parts, eq-eqb, ne_eqb, not-true}
use Rattle.std.proofs.lemmas.List.{append-nil, take-append-drop}
use Rattle.std.proofs.lemmas.Str.{chars-nil, chars_past_char, chars-append, encodes-append, encodes-chars}
use Rattle.std.proofs.lemmas.Str.{length-le-encodes}
use Rattle.std.proofs.lemmas.Str.{IsUtf8-take, IsUtf8-drop, len_utf8_bounds}
use Rattle.std.proofs.Math.Seq.{drop-length}
use Rattle.dotenvy_format.proofs.bytes.Slices.{characters_fail, cut_once}
use Rattle.dotenvy_editor.specs.Ends.{ends_in}
use Rattle.dotenvy_editor.specs.Forms.{any_after, has, is_nil}

-- the character is none of these
abbrev pub is_none_of : ℕ → List ℕ → Bool
is_none_of c cs = list_all (λ d. not (d == c)) cs

-- a character is the same as itself
pub same : (c : ℕ) → (c == c) ≡ true
same c = eq-eqb c c refl

-- of characters that all differ from one, the first does, and so do the others
pub first_differs : (c d : ℕ) (cs : List ℕ) → is_none_of c (d ∷ cs) ≡ true → (d == c) ≡ false
first_differs c d cs h = not-true (d == c) (and_parts (not (d == c)) (is_none_of c cs) h).0

pub others_differ : (c d : ℕ) (cs : List ℕ) → is_none_of c (d ∷ cs) ≡ true → is_none_of c cs ≡ true
others_differ c d cs h = (and_parts (not (d == c)) (is_none_of c cs) h).1

-- a text without the character has it not
pub has_none : (c : ℕ) (cs : List ℕ) → is_none_of c cs ≡ true → has c cs ≡ false
has_none c [] h = refl
has_none c (d ∷ cs) h = rw (first_differs c d cs h, has_none c cs (others_differ c d cs h)) refl

-- a text has a character that is in it, before which it is nowhere
pub has_at : (c : ℕ) (xs ys : List ℕ) → is_none_of c xs ≡ true → has c (xs ++ c ∷ ys) ≡ true
has_at c [] ys h = rw (same c) refl
has_at c (x ∷ xs) ys h = rw (first_differs c x xs h, has_at c xs ys (others_differ c x xs h)) refl

-- nothing follows a character that isn't there
pub after_none : (c : ℕ) (passes : List ℕ → Bool) (cs : List ℕ) → is_none_of c cs ≡ true →
    any_after c passes cs ≡ false
after_none c passes [] h = refl
after_none c passes (d ∷ cs) h =
    rw (first_differs c d cs h, after_none c passes cs (others_differ c d cs h)) refl

-- what follows the first place of a character counts, and then what follows later ones
after_at : (c : ℕ) (passes : List ℕ → Bool) (xs ys : List ℕ) → is_none_of c xs ≡ true →
    any_after c passes (xs ++ c ∷ ys) ≡ (passes ys || any_after c passes ys)
after_at c passes [] ys h = rw (same c) refl
after_at c passes (x ∷ xs) ys h =
    rw (first_differs c x xs h, after_at c passes xs ys (others_differ c x xs h)) refl

-- a text cut at the first place of a character: the texts on both sides, and what follows the character
pub record Cuts (c : ℕ) (text rest : List ℕ) : Type 0 where
  pub follows : (passes : List ℕ → Bool) →
      any_after c passes (chars text) ≡ (passes (chars rest) || any_after c passes (chars rest))
  pub utf8 : IsUtf8 rest
  pub shorter : length rest < length text

-- this is how `split_once` cuts at an ASCII character
pub cuts : (c : ℕ) (text front rest : List ℕ) → IsUtf8 text → c < 128 →
    SplitsAroundMatch (FindsChar c) text front rest → Cuts c text rest
cuts c text front rest u small split =
    let cut = cut_once c text front rest split.0 split.1 u small split.2.0 split.2.1 split.3 split.4 in
    let less : length rest < length text = omega (arith, split.2.1.ends, split.7, len_utf8_bounds c) in
    record {
      follows = λ passes. rw cut.spelled (after_at c passes (chars front) (chars rest) cut.none_before);
      utf8 = cut.rest_utf8;
      shorter = less;
    }

-- where `split_once` finds no character nothing follows it
pub cuts_none : (c : ℕ) (passes : List ℕ → Bool) (text : List ℕ) → IsUtf8 text → FindsChar c text None →
    any_after c passes (chars text) ≡ false
cuts_none c passes text u none = after_none c passes (chars text) (characters_fail (λ d. d == c) text u none)

-- `contains` at an ASCII character
pub contains_has : (c : ℕ) (text : List ℕ) (r : Bool) → IsUtf8 text → c < 128 →
    MatchBool r (HasMatch (FindsChar c) text) (FindsChar c text None) → r ≡ has c (chars text)
contains_has c text true u small found =
    let cut = cut_once c text (take found.0 text) (drop found.1 text) found.0 found.1 u small found.2.0 found.2.1 refl
    refl in
    sym (rw cut.spelled (has_at c (chars (take found.0 text)) (chars (drop found.1 text)) cut.none_before))
contains_has c text false u small none = sym (has_none c (chars text) (characters_fail (λ d. d == c) text u none))

-- a text ends in its last character
ends_at : (c : ℕ) (xs : List ℕ) → ends_in c (xs ++ c ∷ []) ≡ true
ends_at c [] = same c
ends_at c (x ∷ []) = same c
ends_at c (x ∷ y ∷ xs) = ends_at c (y ∷ xs)

ends_not : (c : ℕ) (cs : List ℕ) → ((xs : List ℕ) → cs ≢ xs ++ c ∷ []) → ends_in c cs ≡ false
ends_not c [] h = refl
ends_not c (d ∷ []) h = ne_eqb d c (λ e. h [] (rw e refl))
ends_not c (d ∷ e ∷ cs) h = ends_not c (e ∷ cs) (λ xs q. h (d ∷ xs) (rw q refl))

-- a text that ends with a character's bytes ends in this character
pub last_cut : (c : ℕ) (text : List ℕ) (i : ℕ) → IsUtf8 text → IsCharBoundary text i →
    HasCharAt c text i (length text) → chars text ≡ chars (take i text) ++ c ∷ []
last_cut c text i u boundary at =
    let last = drop (length text) text in
    let tail : chars (drop i text) ≡ c ∷ [] =
    chars_past_char (drop i text) last c (IsUtf8-drop text i u boundary) at.split
    ∙ ap (λ bs. c ∷ chars bs) (drop-length text)
    ∙ ap (λ cs. c ∷ cs) chars-nil in
    ap chars (sym (take-append-drop i text))
    ∙ chars-append (take i text) (drop i text) (IsUtf8-take text i u boundary)
    ∙ ap (λ cs. chars (take i text) ++ cs) tail

-- a text that doesn't end with a character's bytes doesn't end in it
pub last_not : (c : ℕ) (text : List ℕ) → IsUtf8 text → FindsCharSuffix c text None → ends_in c (chars text) ≡ false
last_not c text u none =
    ends_not c (chars text) (λ xs e. none (encode_utf8_all xs)
    (sym (encodes-chars text u)
    ∙ ap encode_utf8_all e
    ∙ encodes-append xs (c ∷ [])
    ∙ ap (λ bs. encode_utf8_all xs ++ bs) (append-nil (encode_utf8 c))))

-- `ends_with` at a character
pub ends_with_last : (c : ℕ) (text : List ℕ) (r : Bool) → IsUtf8 text →
    MatchBool r (HasSuffixMatch (FindsCharSuffix c) text) (FindsCharSuffix c text None) →
    r ≡ ends_in c (chars text)
ends_with_last c text true u found =
    let i = length text - found.0 in
    sym (rw (last_cut c text i u found.3 found.1.1) (ends_at c (chars (take i text))))
ends_with_last c text false u none = sym (last_not c text u none)

-- `strip_suffix` at a character
pub record IsStripped (c : ℕ) (text before : List ℕ) : Type 0 where
  pub spelled : chars text ≡ chars before ++ c ∷ []
  pub utf8 : IsUtf8 before

pub stripped : (c : ℕ) (text before : List ℕ) → IsUtf8 text → StripsSuffix (FindsCharSuffix c) text before →
    IsStripped c text before
stripped c text before u strips =
    let boundary = rw (← strips.1.0) at strips.1.2 in
    rw strips.2 record {
      spelled = last_cut c text (length text - strips.0) u boundary strips.1.1;
      utf8 = IsUtf8-take text (length text - strips.0) u boundary;
    }

-- a text has no character where it has no byte
pub nil_bytes : (cs : List ℕ) → is_nil cs ≡ (length (encode_utf8_all cs) == 0)
nil_bytes [] = refl
nil_bytes (c ∷ cs) =
    let some : 0 < length (encode_utf8_all (c ∷ cs)) = omega (arith, length-le-encodes (c ∷ cs)) in
    sym (ne_eqb (length (encode_utf8_all (c ∷ cs))) 0 (λ e. omega (arith, e, some)))

pub nil_text : (text : List ℕ) → IsUtf8 text → is_nil (chars text) ≡ (length text == 0)
nil_text text u = nil_bytes (chars text) ∙ ap (λ bs. length bs == 0) (encodes-chars text u)
