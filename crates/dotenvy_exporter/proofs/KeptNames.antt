-- The names of an environment that are among some.
use Rattle.std.proofs.Common.{◌≡◌, ℕ, true, false, List, [], ◌∷◌, T, inl, inr, refl, subst, ◌∙◌}
use Rattle.std.proofs.Common.{Some, None}
use Rattle.std.specs.Prelude.{bytes_eq, encode_utf8_all, if◌then◌else◌, is_some, option_map}
use Rattle.std.specs.Option.{option_or}
use Rattle.std.specs.Ordering.{eq_by_cmp, nat_cmp}
use Rattle.std.specs.Cmp.Lexicographic.{slice_cmp}
use Rattle.std.specs.Cmp.{eq_by_cmp_equiv}
use Rattle.std.specs.FinMap as fin
use Rattle.std.specs.FinMap.Entries.{below_all, find, is_sorted}
use Rattle.std.specs.Str.{chars}
use Rattle.std.proofs.lemmas.Bool.{cases_Bool}
use Rattle.std.proofs.lemmas.Cmp.{nat_list_cmp_total}
use Rattle.std.proofs.lemmas.Map.Text.{is_eq-slice_cmp}
use Rattle.std.proofs.lemmas.Slice.Eq.{bytes_eq-Decides}
use Rattle.dotenvy_base.specs.Environment.{Texts}
use Rattle.dotenvy_items.specs.Meaning.{values_of}
use Rattle.dotenvy_items.proofs.KeyLookUps.{get-inserted}
use Rattle.dotenvy_items.proofs.RememberedNames.{each_holds, finds_none}
use Rattle.dotenvy_exporter.specs.Declarations.{restricted}

-- what the name of one pair more has
own_restricted : (names kept : Texts) (name value : List ℕ) (pairs : List (List ℕ × List ℕ)) →
    find (slice_cmp nat_cmp) name pairs ≡ None →
    option_or (if fin.contains_key names name then find (slice_cmp nat_cmp) name pairs else None)
    (fin.get (if fin.contains_key names name then fin.insert kept name value else kept) name)
    ≡ option_or
    (if fin.contains_key names name then find (slice_cmp nat_cmp) name ((name, value) ∷ pairs) else None)
    (fin.get kept name)
own_restricted names kept name value pairs none =
    let here : bytes_eq name name ≡ true = (bytes_eq-Decides name name).1 refl in
    let tie : eq_by_cmp (slice_cmp nat_cmp) name name ≡ true = is_eq-slice_cmp name name ∙ here in
    elim (cases_Bool (fin.contains_key names name)) [
      | inl among ↦ rw (among, get-inserted kept name value name, tie, here, none) refl
      | inr not ↦ rw not refl
    ]

-- what any name has with one pair more
one_restricted : (names kept : Texts) (name value : List ℕ) (pairs : List (List ℕ × List ℕ)) (q : List ℕ) →
    find (slice_cmp nat_cmp) name pairs ≡ None →
    option_or (if fin.contains_key names q then find (slice_cmp nat_cmp) q pairs else None)
    (fin.get (if fin.contains_key names name then fin.insert kept name value else kept) q)
    ≡ option_or
    (if fin.contains_key names q then find (slice_cmp nat_cmp) q ((name, value) ∷ pairs) else None)
    (fin.get kept q)
one_restricted names kept name value pairs q none =
    let tie : eq_by_cmp (slice_cmp nat_cmp) q name ≡ bytes_eq name q =
    (eq_by_cmp_equiv nat_list_cmp_total).symm q name ∙ is_eq-slice_cmp name q in
    elim (cases_Bool (bytes_eq name q)) [
      | inl is ↦
          subst (λ r.
          option_or (if fin.contains_key names r then find (slice_cmp nat_cmp) r pairs else None)
          (fin.get (if fin.contains_key names name then fin.insert kept name value else kept) r)
          ≡ option_or
          (if fin.contains_key names r then find (slice_cmp nat_cmp) r ((name, value) ∷ pairs) else None)
          (fin.get kept r)) ((bytes_eq-Decides name q).0 is) (own_restricted names kept name value pairs none)
      | inr differs ↦
          elim (cases_Bool (fin.contains_key names name)) [
            | inl among ↦ rw (among, get-inserted kept name value q, tie, differs) refl
            | inr not ↦ rw (not, tie, differs) refl
          ]
    ]

-- what a name has among the pairs whose name is among some
get-restricted : (names : Texts) (pairs : List (List ℕ × List ℕ)) (kept : Texts) (q : List ℕ) →
    T (is_sorted (slice_cmp nat_cmp) pairs) →
    fin.get (restricted names pairs kept) q
    ≡ option_or (if fin.contains_key names q then find (slice_cmp nat_cmp) q pairs else None) (fin.get kept q)
get-restricted names [] kept q sorted =
    elim (fin.contains_key names q) as (λ among. fin.get kept q ≡ option_or (if among then None else None) (fin.get kept q))
    [ true ↦ refl | false ↦ refl ]
get-restricted names ((name, value) ∷ pairs) kept q sorted =
    let parts =
    each_holds (below_all (slice_cmp nat_cmp) name pairs) (is_sorted (slice_cmp nat_cmp) pairs) sorted in
    get-restricted names pairs (if fin.contains_key names name then fin.insert kept name value else kept) q parts.1
    ∙ one_restricted names kept name value pairs q (finds_none name pairs parts.0)

-- the value of a name among those of an environment that are among some
pub values_kept : (env names : Texts) (name : List ℕ) →
    values_of (restricted names (fin.entries env) fin.empty) name
    ≡ (if is_some (values_of names name) then values_of env name else None)
values_kept env names name =
    let q = encode_utf8_all name in
    let kept : fin.get (restricted names (fin.entries env) fin.empty) q
    ≡ option_or (if fin.contains_key names q then fin.get env q else None) None =
    get-restricted names (fin.entries env) fin.empty q (fin.entries_sorted env)
    ∙ rw (← fin.get-entries env q, fin.get-empty (slice_cmp nat_cmp) q) refl in
    rw kept (elim (fin.get names q) as (λ found.
    option_map chars (option_or (if is_some found then fin.get env q else None) None)
    ≡ (if is_some (option_map chars found) then option_map chars (fin.get env q) else None)) [
      | None ↦ refl
      | Some text ↦
          elim (fin.get env q) as (λ own. option_map chars (option_or own None) ≡ option_map chars own)
          [ None ↦ refl | Some value ↦ refl ]
    ])
