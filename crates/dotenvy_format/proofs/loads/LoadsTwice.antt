-- What loads keep and change.
use Rattle.std.proofs.Common.{◌≡◌, ℕ, false, ◌&&◌, List, [], ◌∷◌, ◌++◌, None, Some}
use Rattle.std.proofs.Common.{Result, Ok, refl, sym, ◌∙◌, inl, inr, arith}
use Rattle.std.specs.Prelude.{◌⊎◌, is_none, bytes_eq}
use Rattle.std.specs.Cmp.Lexicographic.{same_text}
use Rattle.std.proofs.lemmas.Bool.{cases_Bool, false_from_ne_true}
use Rattle.dotenvy_format.specs.Value.{Piece}
use Rattle.dotenvy_format.specs.Entries.{Failure, Entry, Declares, Fails}
use Rattle.dotenvy_format.specs.Items.{LookUp, no_values, meaning, or_else, with_value, items_from, items}
use Rattle.dotenvy_format.specs.Run.{Keep, Replace, after_declaration, run, has_nul}
use Rattle.dotenvy_format.specs.Loads.{load_result, override_result, SameLoad}
use Rattle.dotenvy_format.specs.Laws.{AgreeOn, AgreeIn, IsOverridden}
use Rattle.dotenvy_format.proofs.loads.LoadRuns.{declared_there, run-same}
use Rattle.dotenvy_format.proofs.loads.LoadLaws.{run-keep, run-replace}

-- a load that keeps has each name that was there
run_keeps : (e r : LookUp) (entries : List Entry) (n : List ℕ) → is_none (e n) ≡ false →
    is_none ((run Keep e r entries).env n) ≡ false
run_keeps e r [] n there = there
run_keeps e r (Fails failure ∷ entries) n there = there
run_keeps e r (Declares key pieces ∷ entries) n there =
    let v = meaning (or_else e r) pieces in
    grind (arith, run_keeps (after_declaration Keep e key v) (with_value r key v) entries n)

-- a load of these entries that keeps values leaves the values of this environment, and has this answer
abbrev Again : LookUp → LookUp → List Entry → LookUp → Result (Unit {0}) Failure → Type 0
Again end s entries env answer =
    ((n : List ℕ) → (run Keep end s entries).env n ≡ env n) × ((run Keep end s entries).answer ≡ answer)

-- a load over what a first one left, remembering the same for absent names, sets nothing and returns the same
pub twice : (e r end s : LookUp) (entries : List Entry) → ((n : List ℕ) → (run Keep e r entries).env n ≡ end n) →
    ((n : List ℕ) → end n ≡ None → s n ≡ r n) → Again end s entries end (run Keep e r entries).answer
twice e r end s [] same past = ((λ n. refl), refl)
twice e r end s (Fails failure ∷ entries) same past = ((λ n. refl), refl)
twice e r end s (Declares key pieces ∷ entries) same past =
    let v = meaning (or_else e r) pieces in
    let w = meaning (or_else end s) pieces in
    let e' = after_declaration Keep e key v in
    elim (cases_Bool (is_none (e key) && has_nul v)) [
      | inl stops ↦
          let is : (n : List ℕ) → e n ≡ end n = rw stops at same in
          let again = run-same Keep e end r s (Declares key pieces ∷ entries) is
          (λ n absent. grind (arith, is n, past n)) in
          ((λ n. sym (again.env n) ∙ same n), sym again.answer)
      | inr goes ↦
          let same' = rw goes at same in
          let there : is_none (end key) ≡ false =
          rw (← same' key) (run_keeps e' (with_value r key v) entries key (declared_there Keep e key v)) in
          rw (goes, there) (twice e' (with_value r key v) end (with_value s key w) entries same' (λ n none.
          let other = false_from_ne_true (bytes_eq key n) (λ is.
          let absent = rw (same_text key n (sym is), none) at there in cc) in
          rw other (past n none)))
    ]

-- loading the same entries again, from an environment with the values that the first load left, changes nothing and
-- has the same answer
pub loads_again : (env end remembered : LookUp) (entries : List Entry) →
    ((name : List ℕ) → (load_result env remembered entries).env name ≡ end name) →
    ((name : List ℕ) → (load_result end remembered entries).env name ≡ end name)
    × ((load_result end remembered entries).answer ≡ (load_result env remembered entries).answer)
loads_again env end remembered entries left =
    let first = run-keep env remembered entries in
    let second = run-keep end remembered entries in
    let again = twice env remembered end remembered entries (λ n. first.env n ∙ left n) (λ n none. refl) in
    (λ n. sym (second.env n) ∙ again.0 n, sym second.answer ∙ again.1 ∙ first.answer)

-- to `load` the same entries again changes no value, and has the same answer
pub loads_twice : (env remembered : LookUp) (entries : List Entry) →
    SameLoad (load_result (load_result env remembered entries).env remembered entries)
    (load_result env remembered entries)
loads_twice env remembered entries =
    let again = loads_again env (load_result env remembered entries).env remembered entries (λ n. refl) in
    record { env = again.0; answer = again.1 }

-- a load keeps each name that was there
pub load_keeps : (env remembered : LookUp) (entries : List Entry) (name value : List ℕ) → env name ≡ Some value →
    (load_result env remembered entries).env name ≡ Some value
load_keeps env remembered entries name value h = rw h

-- the name is declared, and a load that replaces meets no fault up to that declaration
abbrev ReadBy : LookUp → LookUp → List Entry → List ℕ → Type 0
ReadBy e r entries name =
    (before : List Entry)
    × (pieces : List Piece)
    × (after : List Entry)
    × (entries ≡ before ++ Declares name pieces ∷ after)
    × ((run Replace e r (before ++ Declares name pieces ∷ [])).answer ≡ Ok tt)

-- a load that replaces leaves a name's value, or the name is declared and there is no fault up to there
replaces : (e r : LookUp) (entries : List Entry) (name : List ℕ) →
    ((run Replace e r entries).env name ≡ e name) ⊎ ReadBy e r entries name
replaces e r [] name = inl refl
replaces e r (Fails failure ∷ entries) name = inl refl
replaces e r (Declares key pieces ∷ entries) name =
    let v = meaning (or_else e r) pieces in
    elim (cases_Bool (has_nul v)) [
      | inl stops ↦ inl (rw stops)
      | inr goes ↦
          elim (replaces (with_value e key v) (with_value r key v) entries name) [
            | inr w ↦ inr (Declares key pieces ∷ w.0, w.1, w.2, rw w.3, rw goes w.4)
            | inl same ↦
                elim (cases_Bool (bytes_eq key name)) [
                  | inl is ↦ inr ([], pieces, entries, rw (same_text key name (sym is)), rw goes)
                  | inr other ↦ inl (rw goes (rw other at same))
                ]
          ]
    ]

-- `load_override` leaves a name's value, or the name is declared before its stop
pub overrides_declared : (env remembered : LookUp) (entries : List Entry) (name : List ℕ) →
    ((override_result env remembered entries).env name ≡ env name) ⊎ IsOverridden env remembered entries name
overrides_declared env remembered entries name =
    elim (replaces env remembered entries name) [
      | inl h ↦ inl (sym ((run-replace env remembered entries).env name) ∙ h)
      | inr w ↦
          let front = run-replace env remembered (w.0 ++ Declares name w.1 ∷ []) in
          inr (w.0, w.1, w.2, w.3, sym front.answer ∙ w.4)
    ]

-- after the same earlier values, environments that agree on the names in pieces give them the same meaning
meaning-agree : (a b earlier : LookUp) (pieces : List Piece) → AgreeOn a b pieces →
    meaning (or_else a earlier) pieces ≡ meaning (or_else b earlier) pieces
meaning-agree a b earlier [] agree = refl
meaning-agree a b earlier (piece ∷ pieces) agree = grind (arith, meaning-agree a b earlier pieces)

-- after the same earlier values, environments that agree on the names in entries give the same items
items_from-agree : (a b earlier : LookUp) (entries : List Entry) → AgreeIn a b entries →
    items_from a earlier entries ≡ items_from b earlier entries
items_from-agree a b earlier [] agree = refl
items_from-agree a b earlier (entry ∷ entries) agree =
    grind (arith, meaning-agree a b earlier, λ (e : LookUp). items_from-agree a b e entries)

-- environments that agree on the names in the entries give the same items
pub items-agree : (a b : LookUp) (entries : List Entry) → AgreeIn a b entries → items a entries ≡ items b entries
items-agree a b entries agree = items_from-agree a b no_values entries agree
