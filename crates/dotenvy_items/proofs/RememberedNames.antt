-- A name of an environment that is remembered recalls its value there.
use Rattle.std.proofs.Common.{◌≡◌, ℕ, Bool, true, false, List, [], ◌∷◌, T, inl, inr, refl, ap, ◌∙◌}
use Rattle.std.specs.Prelude.{◌&&◌, Option, Some, None, option_map, bytes_eq, encode_utf8_all}
use Rattle.std.specs.Option.{option_or}
use Rattle.std.proofs.Common.{Ordering, Less, Equal, Greater}
use Rattle.std.specs.Ordering.{eq_by_cmp, is_eq, is_lt, nat_cmp}
use Rattle.std.specs.Cmp.Lexicographic.{slice_cmp}
use Rattle.std.specs.Cmp.{eq_by_cmp_equiv}
use Rattle.std.specs.FinMap as fin
use Rattle.std.specs.FinMap.Entries.{below_all, find, is_sorted}
use Rattle.std.specs.Str.{chars}
use Rattle.std.proofs.lemmas.Bool.{cases_Bool}
use Rattle.std.proofs.lemmas.Cmp.{nat_list_cmp_total}
use Rattle.std.proofs.lemmas.Map.Text.{is_eq-slice_cmp}
use Rattle.std.proofs.lemmas.Slice.Eq.{bytes_eq-Decides}
use Rattle.dotenvy_items.specs.Laws.{RecallsNames}
use Rattle.dotenvy_items.specs.Remembered.{Remembered, recalled, with_values}
use Rattle.dotenvy_items.proofs.KeyLookUps.{get-inserted}

-- of two tests that hold together, each holds
pub each_holds : (a b : Bool) → T (a && b) → T a × T b
each_holds true b h = (tt, h)
each_holds false b h = absurd h

-- what is below is not tied
below_differs : (order : Ordering) → T (is_lt order) → is_eq order ≡ false
below_differs Less below = refl
below_differs Equal below = absurd below
below_differs Greater below = absurd below

-- a name below others is none of theirs
pub finds_none : (name : List ℕ) (values : List (List ℕ × List ℕ)) → T (below_all (slice_cmp nat_cmp) name values) →
    find (slice_cmp nat_cmp) name values ≡ None
finds_none name [] below = refl
finds_none name ((other, value) ∷ values) below =
    let parts = each_holds (is_lt (slice_cmp nat_cmp name other)) (below_all (slice_cmp nat_cmp) name values) below in
    rw (below_differs (slice_cmp nat_cmp name other) parts.0, finds_none name values parts.1) refl

-- the first value of names that are in order counts, whichever is remembered last
first_counts : (m : Remembered) (name value : List ℕ) (values : List (List ℕ × List ℕ)) (q : List ℕ) →
    find (slice_cmp nat_cmp) name values ≡ None →
    option_or (find (slice_cmp nat_cmp) q values) (recalled (fin.insert m name (Some value)) q)
    ≡ option_or (find (slice_cmp nat_cmp) q ((name, value) ∷ values)) (recalled m q)
first_counts m name value values q none =
    let tie : eq_by_cmp (slice_cmp nat_cmp) q name ≡ bytes_eq name q =
    (eq_by_cmp_equiv nat_list_cmp_total).symm q name ∙ is_eq-slice_cmp name q in
    elim (cases_Bool (bytes_eq name q)) [
      | inl is ↦
          let same : name ≡ q = (bytes_eq-Decides name q).0 is in
          let later : find (slice_cmp nat_cmp) q values ≡ None =
          rw (← same) none in
          rw (get-inserted m name (Some value) q, tie, is, later) refl
      | inr not ↦ rw (get-inserted m name (Some value) q, tie, not) refl
    ]

-- of values in order a name recalls its own, or else what it did
recalled_values : (values : List (List ℕ × List ℕ)) (m : Remembered) (q : List ℕ) →
    T (is_sorted (slice_cmp nat_cmp) values) →
    recalled (with_values values m) q ≡ option_or (find (slice_cmp nat_cmp) q values) (recalled m q)
recalled_values [] m q sorted = refl
recalled_values ((name, value) ∷ values) m q sorted =
    let parts =
    each_holds (below_all (slice_cmp nat_cmp) name values) (is_sorted (slice_cmp nat_cmp) values) sorted in
    recalled_values values (fin.insert m name (Some value)) q parts.1
    ∙ first_counts m name value values q (finds_none name values parts.0)

-- a text or another, by its characters
mapped_or : (first second : Option (List ℕ)) →
    option_map chars (option_or first second) ≡ option_or (option_map chars first) (option_map chars second)
mapped_or None second = refl
mapped_or (Some text) second = refl

-- with the values of names remembered, a name recalls its own, or else what it did
pub recalls_names : RecallsNames
recalls_names names s name =
    let q = encode_utf8_all name in
    ap (option_map chars) (recalled_values (fin.entries names) s.remembered q (fin.entries_sorted names))
    ∙ rw (← fin.get-entries names q) (mapped_or (fin.get names q) (recalled s.remembered q))
