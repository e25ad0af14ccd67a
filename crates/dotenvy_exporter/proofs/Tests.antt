-- Facts on tests, and on texts joined.
use Rattle.std.proofs.Common.{◌≡◌, ℕ, Bool, true, false, ◌&&◌, ◌||◌, not, List, [], ◌∷◌, ◌++◌, inl, inr, refl, arith}
use Rattle.std.specs.Prelude.{Some, ◌==◌, if◌then◌else◌}
use Rattle.std.proofs.lemmas.Bool.{and_parts, cases_Bool, eqb-true, not-true}
use Rattle.std.specs.List.{list_all}
use Rattle.std.proofs.lemmas.List.Folds.{list_any-append}
use Rattle.std.proofs.Math.Utf8.{scalars}
use Rattle.dotenvy_format.specs.Characters.{equals_sign}
use Rattle.dotenvy_exporter.specs.Texts.{has, split_at_equals}

pub and_left : (a b : Bool) → (a && b) ≡ true → a ≡ true
and_left a b h = (and_parts a b h).0

pub and_right : (a b : Bool) → (a && b) ≡ true → b ≡ true
and_right a b h = (and_parts a b h).1

pub not_is : (a : Bool) → not a ≡ true → a ≡ false
not_is a h = not-true a h

pub or_left : (a b : Bool) → (a || b) ≡ false → a ≡ false
or_left true b h = h
or_left false b h = refl

pub or_right : (a b : Bool) → (a || b) ≡ false → b ≡ false
or_right true b h = cc
or_right false b h = h

pub scalars-append : (xs ys : List ℕ) → scalars (xs ++ ys) ≡ (scalars xs && scalars ys)
scalars-append [] ys = refl
scalars-append (x ∷ xs) ys = rw (scalars-append xs ys) (grind arith)

-- a text with no `=`, before an `=`, is what is before the first
pub split_name : (name value : List ℕ) → has equals_sign name ≡ false →
    split_at_equals (name ++ equals_sign ∷ value) ≡ Some (name, value)
split_name [] value h = refl
split_name (c ∷ name) value h =
    let l = or_left (c == equals_sign) (has equals_sign name) h in
    let r = split_name name value (or_right (c == equals_sign) (has equals_sign name) h) in
    rw (l, r) refl

-- what holds of both branches, where their test is known there, holds of the choice
pub picked : {A : Type 0} (P : A → Type 0) (b : Bool) (x y : A) → (b ≡ true → P x) → (b ≡ false → P y) →
    P (if b then x else y)
picked P true x y h k = h refl
picked P false x y h k = k refl

-- texts without a character, joined, have none of it
pub join_clean : (d : ℕ) (xs ys : List ℕ) → has d xs ≡ false → has d ys ≡ false → has d (xs ++ ys) ≡ false
join_clean d xs ys h k = rw (list_any-append (λ c. c == d) xs ys, h, k) refl

-- characters that all pass a test have none that doesn't
pub none_of_others : (passes : ℕ → Bool) (d : ℕ) (cs : List ℕ) → passes d ≡ false → list_all passes cs ≡ true →
    has d cs ≡ false
none_of_others passes d [] other h = refl
none_of_others passes d (c ∷ cs) other h =
    let p = and_left (passes c) (list_all passes cs) h in
    let q = none_of_others passes d cs other (and_right (passes c) (list_all passes cs) h) in
    let one : (c == d) ≡ false =
    elim (cases_Bool (c == d)) [
      | inl is ↦ absurd (let e = rw (eqb-true c d is) at p in cc)
      | inr differs ↦ differs
    ] in
    rw (one, q) refl
