-- Paths as texts: the path of a name in a directory, and the directory above.
use Rattle.std.proofs.Common.{◌≡◌, ◌≢◌, ℕ, suc, ◌+◌, ◌-◌, ◌<◌, arith, false, not, cond}
use Rattle.std.proofs.Common.{List, [], ◌∷◌, Some, refl, ap, length}
use Rattle.std.proofs.Common.{get_or, take, append_assoc, ne_eqb, length-take-le}
use Rattle.std.specs.Prelude.{◌==◌}
use Rattle.std.specs.List.{list_any, before_last, suffix_len}
use Rattle.std.specs.Path.{path_join}
use Rattle.std.proofs.lemmas.List.Folds.{list_any_at}
use Rattle.std.proofs.lemmas.Bool.Decides.{nat_tests}
use Rattle.std.proofs.lemmas.List.Sums.{suffix_len_is}
use Rattle.dotenvy_base.specs.Search.{slash, is_slash, ends_with_slash, path_in}
use Rattle.dotenvy_base.specs.Search.{parent_part, parent_of}

-- the last character is a slash, by its place
ends_by_place : (c : ℕ) (cs : List ℕ) → (get_or (c ∷ cs) (length cs) 0 == slash) ≡ ends_with_slash (c ∷ cs)
ends_by_place c [] = refl
ends_by_place c (d ∷ cs) = ends_by_place d cs

-- std's `push` of a name gives its path in the directory
pub join_is_path_in : (directory name : List ℕ) → path_join directory name ≡ path_in directory name
unfolding path_join
join_is_path_in [] name = grind arith
join_is_path_in (c ∷ cs) name =
    let e : length (c ∷ cs) - 1 ≡ length cs = omega arith in
    grind (arith, ends_by_place c cs, append_assoc (c ∷ cs) (slash ∷ []) name)

-- a text whose characters are all others has none
none_at : (text : List ℕ) → ((i : ℕ) → i < length text → get_or text i 0 ≢ slash) → list_any is_slash text ≡ false
none_at [] h = refl
none_at (c ∷ cs) h = rw (ne_eqb c slash (h 0 (omega arith))) (none_at cs (λ i l. h (suc i) (omega (arith, l))))

-- what stands before the last slash, by its place
before_by_place : (text : List ℕ) (k : ℕ) → k < length text → get_or text k 0 ≡ slash →
    ((i : ℕ) → k < i → i < length text → get_or text i 0 ≢ slash) → before_last is_slash text ≡ take k text
before_by_place text k h e later =
    let at : k + 1 - 1 ≡ k = omega arith in
    let len : suffix_len (λ c. not (is_slash c)) text ≡ length text - (k + 1) = suffix_len_is
    (λ c. not (is_slash c)) text (k + 1) 0 (omega (arith, h))
    (λ i l m. ap not (ne_eqb (get_or text i 0) slash (later i (omega (arith, l)) m))) (λ p. rw (at, e) refl) in
    let cut : length text - suffix_len (λ c. not (is_slash c)) text - 1 ≡ k = omega (arith, len, h) in
    rw cut refl

-- what stands before the last slash, or the root
abbrev above : List ℕ → List ℕ
above text = cond (length (before_last is_slash text) == 0) (slash ∷ []) (before_last is_slash text)

-- the directory above; there is none above the empty text and the root
parent_is_part : (text : List ℕ) → text ≢ [] → text ≢ slash ∷ [] → parent_of text ≡ Some (parent_part text)
parent_is_part text some other = grind (arith, nat_tests)

-- the directory above a text without a slash
pub parent_of_name : (text : List ℕ) → text ≢ [] → ((i : ℕ) → i < length text → get_or text i 0 ≢ slash) →
    parent_of text ≡ Some []
parent_of_name text some none =
    grind (arith, parent_is_part text some, none_at text none, none 0)

-- the directory above, by the place of the last slash
pub parent_at_slash : (text : List ℕ) (k : ℕ) → text ≢ slash ∷ [] → k < length text → get_or text k 0 ≡ slash →
    ((i : ℕ) → k < i → i < length text → get_or text i 0 ≢ slash) →
    parent_of text ≡ Some (cond (k == 0) (slash ∷ []) (take k text))
parent_at_slash text k other h e later =
    let any = list_any_at is_slash text k 0 h (ap is_slash e) in
    let before = before_by_place text k h e later in
    grind (arith, nat_tests, parent_is_part text, length-take-le k text)
