-- The pairs of an environment are good ones, each by itself.
use Rattle.std.proofs.Common.{◌≡◌, ℕ, arith, List, [], ◌∷◌, T, refl, ◌∙◌}
use Rattle.std.proofs.lemmas.Cmp.{nat_list_cmp_total, tied_itself}
use Rattle.std.specs.Prelude.{Some, None, IsTrue}
use Rattle.std.specs.Ordering.{nat_cmp}
use Rattle.std.specs.Cmp.Lexicographic.{slice_cmp}
use Rattle.std.specs.FinMap.{find, entries, is_sorted, entries_sorted, get-entries}
use Rattle.std.specs.FinMap.Entries.{below_all}
use Rattle.dotenvy_base.specs.Environment.{Env, IsEnvironment, AreGood, name_ok, value_ok}
use Rattle.dotenvy_base.proofs.TextMaps.{tied_names}
use Rattle.std.proofs.lemmas.Bool.{and_from}

-- a name below all others is none of them
below_none : (name : List ℕ) (pairs : List (List ℕ × List ℕ)) → T (below_all (slice_cmp nat_cmp) name pairs) →
    find (slice_cmp nat_cmp) name pairs ≡ None
below_none name [] h = refl
below_none name (pair ∷ pairs) h = grind (arith, below_none name pairs)

-- a value found after a pair whose name is below all others is found with that pair in front, too
found_later : (first : List ℕ × List ℕ) (pairs : List (List ℕ × List ℕ)) (name value : List ℕ) →
    T (below_all (slice_cmp nat_cmp) first.0 pairs) → find (slice_cmp nat_cmp) name pairs ≡ Some value →
    find (slice_cmp nat_cmp) name (first ∷ pairs) ≡ Some value
found_later first pairs name value below found =
    grind (arith, tied_names name first.0, below_none first.0 pairs below)

-- where each look-up gives a good pair, each pair is good
all_good : (pairs : List (List ℕ × List ℕ)) → T (is_sorted (slice_cmp nat_cmp) pairs) →
    ((name value : List ℕ) → find (slice_cmp nat_cmp) name pairs ≡ Some value →
    IsTrue (name_ok name) × IsTrue (value_ok value)) →
    AreGood pairs
all_good [] sorted good = refl
all_good (pair ∷ pairs) sorted good =
    let parts : T (below_all (slice_cmp nat_cmp) pair.0 pairs) × T (is_sorted (slice_cmp nat_cmp) pairs) =
    grind arith in
    let own = good pair.0 pair.1 (rw (tied_itself nat_list_cmp_total pair.0) refl) in
    let later = all_good pairs parts.1
    (λ name value is. good name value (found_later pair pairs name value parts.0 is)) in
    and_from _ _ (and_from _ _ own.0 own.1) later

-- the pairs of an environment are good
pub good_entries : (env : Env) → IsEnvironment env → AreGood (entries env.names)
good_entries env good =
    all_good (entries env.names) (entries_sorted env.names)
    (λ name value found. good name value (get-entries env.names name ∙ found))
