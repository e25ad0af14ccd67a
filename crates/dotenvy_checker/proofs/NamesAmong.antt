-- Names among the keys of maps and sets, by their bytes.
use Rattle.std.proofs.Common.{◌≡◌, ℕ, Bool, true, false, cond, List, [], ◌∷◌, refl, sym, ◌∙◌, ap, string_bytes}
use Rattle.std.specs.Prelude.{◌||◌, bytes_eq, is_some}
use Rattle.std.specs.BTreeMap.{is_at}
use Rattle.std.specs.BTreeSet.{BTreeSet, Updates}
use Rattle.std.specs.Cmp.Lexicographic.{nat_list_eq_equiv, slice_cmp}
use Rattle.std.specs.List.{AllByRecursion, list_any}
use Rattle.std.specs.List.Sorted.{IsStrictlySortedBy}
use Rattle.std.specs.Map.{keys_of, lookup}
use Rattle.std.specs.Ordering.{nat_cmp}
use Rattle.std.specs.String.{string_cmp}
use Rattle.std.specs.declared.cmp.Ordering.TheVariants.{Less}
use Rattle.std.specs.declared.string.String.{String}
use Rattle.std.proofs.lemmas.Map.Text.{btree_set_updates_text, is_eq-slice_cmp}
use Rattle.std.proofs.lemmas.Map.Made.{is_some-lookup}
use Rattle.clap.specs.Words.{Text}
use Rattle.dotenvy_words.specs.Found.{texts}
use Rattle.dotenvy_checker.specs.Folders.{is_among}

-- two texts are the same in either order
pub bytes_eq_swap : (a b : List ℕ) → bytes_eq a b ≡ bytes_eq b a
bytes_eq_swap a b = nat_list_eq_equiv.symm a b

-- a name is among strings where one of them has its bytes
among_any : {A : Type 0} (name : Text) (keys : List (String A)) →
    is_among (texts keys) name ≡ list_any (λ k. bytes_eq name (string_bytes k)) keys
among_any name [] = refl
among_any name (k ∷ keys) =
    ap (λ b. b || is_among (texts keys) name) (bytes_eq_swap (string_bytes k) name)
    ∙ ap (λ b. bytes_eq name (string_bytes k) || b) (among_any name keys)

-- a name is among the keys of entries where it is looked up
pub among_keys : {A X : Type 0} (name : Text) (entries : List (String A × X)) →
    is_among (texts (keys_of entries)) name ≡ is_some (lookup (λ k. bytes_eq name (string_bytes k)) entries)
among_keys name entries =
    among_any name (keys_of entries) ∙ sym (is_some-lookup (λ k. bytes_eq name (string_bytes k)) entries)

-- a name is among the keys of a set where the set has it
pub among_set : {A : Type 0} (name : Text) (keys : List (String A)) →
    is_among (texts keys) name ≡ list_any (is_at (λ k. slice_cmp nat_cmp name (string_bytes k))) keys
among_set name [] = refl
among_set name (k ∷ keys) =
    ap (λ b. b || is_among (texts keys) name)
    (bytes_eq_swap (string_bytes k) name ∙ sym (is_eq-slice_cmp name (string_bytes k)))
    ∙ ap (λ b. is_at (λ k. slice_cmp nat_cmp name (string_bytes k)) k || b) (among_set name keys)

-- true or another value
cond_or : (b c : Bool) → cond b true c ≡ (b || c)
cond_or true c = refl
cond_or false c = refl

-- a name is in a set with one more key where it is the key or was in it
among_inserted : {A : Type 0} (old new : BTreeSet (String A)) (key : String A) → Updates string_cmp old new key true →
    (name : Text) → is_among (texts new.keys) name ≡ (bytes_eq (string_bytes key) name || is_among (texts old.keys) name)
among_inserted old new key updates name =
    among_set name new.keys ∙ btree_set_updates_text (string_bytes key) old new true updates name
    ∙ ap (cond (bytes_eq (string_bytes key) name) true) (sym (among_set name old.keys))
    ∙ cond_or (bytes_eq (string_bytes key) name) (is_among (texts old.keys) name)

-- one of three, in another order
or_swap : (a b c : Bool) → ((a || b) || c) ≡ (b || (a || c))
or_swap true true c = refl
or_swap true false c = refl
or_swap false b c = refl

-- nothing more
or_none : (b : Bool) → b ≡ (b || false)
or_none true = refl
or_none false = refl

-- with one more name added, the others are left
pub added_more : {A : Type 0} (old new : BTreeSet (String A)) (key copy : String A) (left after : List (String A))
    (all : Text → Bool) → left ≡ key ∷ after → string_bytes copy ≡ string_bytes key →
    Updates string_cmp old new copy true →
    ((name : Text) → (is_among (texts old.keys) name || is_among (texts left) name) ≡ all name) →
    (name : Text) → (is_among (texts new.keys) name || is_among (texts after) name) ≡ all name
added_more old new key copy left after all is same updates h name =
    ap (λ b. b || is_among (texts after) name) (among_inserted old new copy updates name
    ∙ ap (λ bytes. bytes_eq bytes name || is_among (texts old.keys) name) same)
    ∙ or_swap (bytes_eq (string_bytes key) name) (is_among (texts old.keys) name) (is_among (texts after) name)
    ∙ ap (λ names. is_among (texts old.keys) name || is_among (texts names) name) (sym is) ∙ h name

-- with none left, all are added
pub added_all : {A : Type 0} (names : Text → Bool) (left : List (String A)) (all : Text → Bool) → left ≡ [] →
    ((name : Text) → (names name || is_among (texts left) name) ≡ all name) → names ≡ all
added_all names left all none h = λ i name.
    (or_none (names name) ∙ ap (λ rest. names name || is_among (texts rest) name) (sym none) ∙ h name) i

-- what is above a key is above its bytes
above_texts : {A : Type 0} (key : String A) (keys : List (String A)) →
    AllByRecursion (λ other. string_cmp key other ≡ Less) keys →
    AllByRecursion (λ other. slice_cmp nat_cmp (string_bytes key) other ≡ Less) (texts keys)
above_texts key [] h = tt
above_texts key (other ∷ keys) h = (h.0, above_texts key keys h.1)

-- keys in order are in order by their bytes
pub sorted_texts : {A : Type 0} (keys : List (String A)) → IsStrictlySortedBy string_cmp keys →
    IsStrictlySortedBy (slice_cmp nat_cmp) (texts keys)
unfolding IsStrictlySortedBy
sorted_texts [] sorted = tt
sorted_texts (key ∷ keys) sorted = (above_texts key keys sorted.0, sorted_texts keys sorted.1)
