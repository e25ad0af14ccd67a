-- A search in names that are in order.
use Rattle.std.proofs.Common.{◌≡◌, ◌∙◌, ℕ, zero, suc, ◌<◌, true, false, not}
use Rattle.std.proofs.Common.{List, [], ◌∷◌, length, map}
use Rattle.std.proofs.Common.{Result, Ok, Err, get_or, inl, inr, refl, sym, ap, arith, add-one}
use Rattle.std.specs.Prelude.{is_ok}
use Rattle.std.specs.Cmp.Lexicographic.{slice_cmp}
use Rattle.std.specs.List.{list_any}
use Rattle.std.specs.List.Sorted.{IsBinarySearchResult, IsSearchInRange, IsSortedBy}
use Rattle.std.specs.Ordering.{is_eq, is_lt, nat_cmp}
use Rattle.std.specs.Str.{bytes_eq}
use Rattle.std.proofs.lemmas.Bool.{cases_lt}
use Rattle.std.proofs.lemmas.Cmp.{nat_list_cmp_total}
use Rattle.std.proofs.lemmas.List.Elements.{All-from_get_or}
use Rattle.std.proofs.lemmas.List.Folds.{list_any_at, list_any_none}
use Rattle.std.proofs.lemmas.List.Sorted.{searchable_from_sorted}
use Rattle.std.proofs.lemmas.Map.Text.{is_eq-slice_cmp}
use Rattle.dotenvy_exporter.specs.Reserved.{are_in_order}
use Rattle.dotenvy_exporter.proofs.Tests.{and_left, and_right, not_is}

-- in order, each is not below the one before it
next_above : {X : Type 0} (key : X → List ℕ) (xs : List X) → are_in_order (map key xs) ≡ true → (k : ℕ) (d : X) →
    suc k < length xs → is_lt (slice_cmp nat_cmp (key (get_or xs (suc k) d)) (key (get_or xs k d))) ≡ false
next_above key [] h k d low = absurd (omega arith)
next_above key (x ∷ []) h k d low = absurd (omega arith)
next_above key (x ∷ y ∷ xs) h zero d low =
    not_is _ (and_left (not (is_lt (slice_cmp nat_cmp (key y) (key x)))) (are_in_order (map key (y ∷ xs))) h)
next_above key (x ∷ y ∷ xs) h (suc k) d low =
    next_above key (y ∷ xs)
    (and_right (not (is_lt (slice_cmp nat_cmp (key y) (key x)))) (are_in_order (map key (y ∷ xs))) h) k d (omega
    arith)

in_order : {X : Type 0} (key : X → List ℕ) (xs : List X) → are_in_order (map key xs) ≡ true →
    IsSortedBy (λ a b. is_lt (slice_cmp nat_cmp (key a) (key b))) xs
in_order key xs h k d low high =
    let next : suc k < length xs = omega arith in rw add-one (next_above key xs h k d next)

-- what is found is one of them, and what isn't is none
pub is_found : {X : Type 0} (key : X → List ℕ) (xs : List X) (name : List ℕ) (r : Result ℕ ℕ) →
    are_in_order (map key xs) ≡ true → IsSearchInRange r (length xs) →
    IsBinarySearchResult (λ y. slice_cmp nat_cmp (key y) name) xs r →
    is_ok r ≡ list_any (λ y. bytes_eq (key y) name) xs
is_found key [] name (Ok i) h range is = absurd (omega arith)
is_found key (x ∷ xs) name (Ok i) h range is =
    let found = sym (is_eq-slice_cmp (key (get_or (x ∷ xs) i x)) name) ∙ ap is_eq (is x) in
    sym (list_any_at (λ y. bytes_eq (key y) name) (x ∷ xs) i x range found)
is_found key [] name (Err i) h range is = refl
is_found key (x ∷ xs) name (Err i) h range is =
    let point = is (searchable_from_sorted nat_list_cmp_total key (x ∷ xs) name (in_order key (x ∷ xs) h)) in
    sym (list_any_none (λ y. bytes_eq (key y) name) (x ∷ xs) (All-from_get_or (λ y. bytes_eq (key y) name ≡ false)
    (x ∷ xs) x
    (λ k low. sym (is_eq-slice_cmp (key (get_or (x ∷ xs) k x)) name) ∙ elim (cases_lt k i) [
      | inl below ↦ ap is_eq (point.0 k x (omega arith) below)
      | inr above ↦ ap is_eq (point.1 k x above low)
    ])))
