-- The pairs that are kept of an environment, and the names that are left out.
use Rattle.std.proofs.Common.{◌≡◌, ℕ, Bool, true, false, cond, not, ◌&&◌, List, [], ◌∷◌, T, ap, map, refl, sym, ◌∙◌}
use Rattle.std.specs.Prelude.{filter}
use Rattle.std.specs.Ordering.{is_lt, nat_cmp}
use Rattle.std.specs.Cmp.Lexicographic.{slice_cmp}
use Rattle.std.specs.FinMap as fin
use Rattle.std.specs.FinMap.{is_sorted}
use Rattle.std.specs.FinMap.Entries.{below_all}
use Rattle.std.specs.Str.{chars}
use Rattle.std.proofs.lemmas.Cmp.{nat_list_cmp_total}
use Rattle.dotenvy_base.specs.Environment.{Texts, pair_ok}
use Rattle.dotenvy_items.specs.Listed.{pairs_of}
use Rattle.dotenvy_exporter.specs.declared.target.Target.{Target}
use Rattle.dotenvy_exporter.specs.Texts.{Pair}
use Rattle.dotenvy_export_command.specs.Exports.{is_reserved}

-- a pair of bytes, by its characters
abbrev pub shown : List ℕ × List ℕ → Pair
shown p = (chars p.0, chars p.1)

-- a pair of bytes that is kept
abbrev pub is_kept : Target → List ℕ × List ℕ → Bool
is_kept target p = not (is_reserved target (shown p))

-- the names that are left out of pairs of bytes
abbrev pub left_of : Target → List (List ℕ × List ℕ) → List (List ℕ)
left_of target es = map (λ pair. pair.0) (filter (is_reserved target) (map shown es))

-- of two tests that hold together, each holds
each_holds : (a b : Bool) → T (a && b) → T a × T b
each_holds true b h = (tt, h)
each_holds false b h = absurd h

-- two tests that hold, hold together
both_hold : (a b : Bool) → T a → T b → T (a && b)
both_hold true b p q = q
both_hold false b p q = p

-- a name that is below others is below those that are kept
below_filter : (p : List ℕ × List ℕ → Bool) (name : List ℕ) (es : List (List ℕ × List ℕ)) →
    T (below_all (slice_cmp nat_cmp) name es) → T (below_all (slice_cmp nat_cmp) name (filter p es))
below_filter p name [] h = tt
below_filter p name (e ∷ es) h =
    let parts = each_holds (is_lt (slice_cmp nat_cmp name e.0)) (below_all (slice_cmp nat_cmp) name es) h in
    let rest = below_filter p name es parts.1 in
    elim (p e) as (λ b. T (below_all (slice_cmp nat_cmp) name (cond b (e ∷ filter p es) (filter p es)))) [
      | true ↦ both_hold _ _ parts.0 rest
      | false ↦ rest
    ]

-- entries in order stay so if some are left out
sorted_filter : (p : List ℕ × List ℕ → Bool) (es : List (List ℕ × List ℕ)) → T (is_sorted (slice_cmp nat_cmp) es) →
    T (is_sorted (slice_cmp nat_cmp) (filter p es))
sorted_filter p [] h = tt
sorted_filter p (e ∷ es) h =
    let parts = each_holds (below_all (slice_cmp nat_cmp) e.0 es) (is_sorted (slice_cmp nat_cmp) es) h in
    let rest = sorted_filter p es parts.1 in
    elim (p e) as (λ b. T (is_sorted (slice_cmp nat_cmp) (cond b (e ∷ filter p es) (filter p es)))) [
      | true ↦ both_hold _ _ (below_filter p e.0 es parts.0) rest
      | false ↦ rest
    ]

-- a map that is made of entries in order has these entries
made_entries : (es : List (List ℕ × List ℕ)) → T (is_sorted (slice_cmp nat_cmp) es) →
    fin.entries (fin.from_entries {R = slice_cmp nat_cmp} es) ≡ es
made_entries es h =
    ap fin.entries
    (fin.same_map nat_list_cmp_total (fin.slice_cmp-IsAntisymmetric fin.nat_cmp-IsAntisymmetric)
    (fin.from_entries {R = slice_cmp nat_cmp} es) (fin.from_sorted {R = slice_cmp nat_cmp} es)
    (λ q. fin.get-from_entries nat_list_cmp_total es q ∙ sym (fin.get-from_sorted (slice_cmp nat_cmp) es q h)))
    ∙ fin.entries-from_sorted (slice_cmp nat_cmp) es h

-- to leave some out by their characters, before or after the bytes are read as characters
shown_filter : (keep : Pair → Bool) (es : List (List ℕ × List ℕ)) →
    map shown (filter (λ e. keep (shown e)) es) ≡ filter keep (map shown es)
shown_filter keep [] = refl
shown_filter keep (e ∷ es) =
    let rest = shown_filter keep es in
    elim (keep (shown e)) as (λ b.
    map shown (cond b (e ∷ filter (λ e. keep (shown e)) es) (filter (λ e. keep (shown e)) es))
    ≡ cond b (shown e ∷ filter keep (map shown es)) (filter keep (map shown es))) [
      | true ↦ ap (λ others. shown e ∷ others) rest
      | false ↦ rest
    ]

-- an environment that is made of the pairs that are kept has these
pub pairs_kept : (target : Target) (names made : Texts) (listed : List (List ℕ × List ℕ)) →
    made ≡ fin.from_entries (filter pair_ok listed) → filter pair_ok listed ≡ listed →
    listed ≡ filter (is_kept target) (fin.entries names) →
    pairs_of made ≡ filter (λ pair. not (is_reserved target pair)) (pairs_of names)
pairs_kept target names made listed is good kept =
    rw (
      is,
      good,
      kept,
      made_entries (filter (is_kept target) (fin.entries names))
          (sorted_filter (is_kept target) (fin.entries names) (fin.entries_sorted names)),
    )
    (shown_filter (λ pair. not (is_reserved target pair)) (fin.entries names))
