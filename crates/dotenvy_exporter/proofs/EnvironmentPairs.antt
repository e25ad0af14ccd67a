-- The pairs of an environment are texts, and their names are distinct.
use Rattle.std.proofs.Common.{◌≡◌, ℕ, Bool, true, false, ◌&&◌, List, [], ◌∷◌, ◌++◌, T, inl, inr, refl, sym, ap, ◌∙◌}
use Rattle.std.specs.Prelude.{◌==◌, encode_utf8_all}
use Rattle.std.specs.Ordering.{is_lt, nat_cmp}
use Rattle.std.specs.Cmp.Lexicographic.{slice_cmp}
use Rattle.std.specs.FinMap.{is_sorted}
use Rattle.std.specs.FinMap.Entries.{below_all}
use Rattle.std.specs.List.{list_all}
use Rattle.std.specs.Str.{all_scalars, chars, IsUtf8}
use Rattle.std.proofs.lemmas.Bool.{cases_Bool, eqb-true}
use Rattle.std.proofs.lemmas.Cmp.{nat_list_cmp_total, tied_itself}
use Rattle.std.proofs.lemmas.Str.{encodes-chars, scalars-chars}
use Rattle.dotenvy_exporter.specs.Laws.{AreTexts}
use Rattle.dotenvy_exporter.specs.Texts.{has_distinct, is_new, same}
use Rattle.dotenvy_exporter.proofs.Tests.{and_left, and_right, scalars-append}
use Rattle.dotenvy_exporter.proofs.WrittenPairs.{texts}

-- each name and each value is UTF-8
abbrev pub AreUtf8 : List (List ℕ × List ℕ) → Type 0
AreUtf8 [] = Unit {0}
AreUtf8 ((name, value) ∷ entries) = IsUtf8 name × IsUtf8 value × AreUtf8 entries

-- of two tests that hold together, each holds
each_holds : (a b : Bool) → T (a && b) → T a × T b
each_holds true b h = (tt, h)
each_holds false b h = absurd h

-- texts that are found the same are equal
same_text : (one other : List ℕ) → same one other ≡ true → one ≡ other
same_text [] [] h = refl
same_text [] (d ∷ ds) h = cc
same_text (c ∷ cs) [] h = cc
same_text (c ∷ cs) (d ∷ ds) h =
    rw (eqb-true c d (and_left (c == d) (same cs ds) h), same_text cs ds (and_right (c == d) (same cs ds) h)) refl

-- names with the same characters are the same bytes
same_name : (one other : List ℕ) → IsUtf8 one → IsUtf8 other → same (chars one) (chars other) ≡ true → one ≡ other
same_name one other o t h =
    sym (encodes-chars one o) ∙ ap encode_utf8_all (same_text (chars one) (chars other) h) ∙ encodes-chars other t

-- no name is below itself
not_below : (name : List ℕ) → T (is_lt (slice_cmp nat_cmp name name)) → ⊥
not_below name below = rw (tied_itself nat_list_cmp_total name) at below

-- a name below others is none of theirs
below_new : (name : List ℕ) (entries : List (List ℕ × List ℕ)) → IsUtf8 name → AreUtf8 entries →
    T (below_all (slice_cmp nat_cmp) name entries) → is_new (chars name) (texts entries) ≡ true
below_new name [] utf8 are below = refl
below_new name ((other, value) ∷ entries) utf8 (own, text, are) below =
    let parts = each_holds (is_lt (slice_cmp nat_cmp name other)) (below_all (slice_cmp nat_cmp) name entries)
    below in
    let differs : same (chars name) (chars other) ≡ false =
    elim (cases_Bool (same (chars name) (chars other))) [
      | inl is ↦
          absurd (not_below name (rw (sym (same_name name other utf8 own is)) at parts.0))
      | inr not ↦ not
    ] in
    rw (differs, below_new name entries utf8 are parts.1) refl

-- names in order are distinct
sorted_distinct : (entries : List (List ℕ × List ℕ)) → AreUtf8 entries →
    T (is_sorted (slice_cmp nat_cmp) entries) → has_distinct (texts entries) ≡ true
sorted_distinct [] are sorted = refl
sorted_distinct ((name, value) ∷ entries) (own, text, are) sorted =
    let parts =
    each_holds (below_all (slice_cmp nat_cmp) name entries) (is_sorted (slice_cmp nat_cmp) entries) sorted in
    rw (below_new name entries own are parts.0, sorted_distinct entries are parts.1) refl

-- characters of UTF-8 are Unicode scalar values
texts_scalars : (entries : List (List ℕ × List ℕ)) → AreUtf8 entries →
    list_all (λ pair. all_scalars (pair.0 ++ pair.1)) (texts entries) ≡ true
texts_scalars [] are = refl
texts_scalars ((name, value) ∷ entries) (own, text, are) =
    rw (
      scalars-append (chars name) (chars value),
      scalars-chars name own,
      scalars-chars value text,
      texts_scalars entries are,
    ) refl

-- entries in order that are UTF-8 are texts
pub are_texts : (entries : List (List ℕ × List ℕ)) → AreUtf8 entries → T (is_sorted (slice_cmp nat_cmp) entries) →
    AreTexts (texts entries)
are_texts entries are sorted = record {
  scalars = texts_scalars entries are;
  distinct = sorted_distinct entries are sorted;
}

-- entries are UTF-8 if the others are, and the first is, whose texts the code holds
pub first_utf8 : {key value key' value' : List ℕ} {rest entries : List (List ℕ × List ℕ)} → key' ≡ key →
    value' ≡ value → entries ≡ (key, value) ∷ rest → IsUtf8 key' → IsUtf8 value' → AreUtf8 rest → AreUtf8 entries
first_utf8 k v first name text are = rw (first, ← k, ← v) (name, text, are)
