-- A quoted part that closes at the end of a text, run by run.
use Rattle.std.proofs.Common.{◌≡◌, ◌∙◌, ℕ, Bool, true, false, ◌||◌, not, List, [], ◌∷◌, ◌++◌}
use Rattle.std.proofs.Common.{inl, inr, refl, ap}
use Rattle.std.specs.Prelude.{◌==◌}
use Rattle.std.specs.List.{list_all}
use Rattle.std.proofs.lemmas.Bool.{and_parts, cases_Bool, not-true}
use Rattle.dotenvy_format.specs.Characters.{backslash}
use Rattle.dotenvy_format.specs.inside.Slices.{IsSpan}
use Rattle.dotenvy_editor.specs.Forms.{closes, is_nil}
use Rattle.dotenvy_editor.proofs.TextTests.{same}

-- a character between these quotes that neither ends them nor escapes another
abbrev pub is_inside : ℕ → ℕ → Bool
is_inside quote c = not (c == quote || c == backslash)

-- it is passed
closes_inside : (quote c : ℕ) (cs : List ℕ) → (c == quote) ≡ false → (c == backslash) ≡ false →
    closes quote (c ∷ cs) ≡ closes quote cs
closes_inside quote c [] q b = q
closes_inside quote c (d ∷ cs) q b = rw (q, b) refl

-- neither of two tests holds where not one of them does
neither : (a b : Bool) → not (a || b) ≡ true → (a ≡ false) × (b ≡ false)
neither true b h = let e : false ≡ true = h in absurd (cc)
neither false b h = (refl, not-true b h)

closes_run : (quote : ℕ) (front rest : List ℕ) → list_all (is_inside quote) front ≡ true →
    closes quote (front ++ rest) ≡ closes quote rest
closes_run quote [] rest h = refl
closes_run quote (c ∷ front) rest h =
    let parts = and_parts (is_inside quote c) (list_all (is_inside quote) front) h in
    let plain = neither (c == quote) (c == backslash) parts.0 in
    closes_inside quote c (front ++ rest) plain.0 plain.1 ∙ closes_run quote front rest parts.1

-- a run of such characters is passed
pub run_closes : (quote : ℕ) (text front left : List ℕ) → IsSpan (is_inside quote) text front left →
    closes quote text ≡ closes quote left
run_closes quote text front left span = ap (closes quote) span.spelled ∙ closes_run quote front left span.pass

-- the quote closes the part if nothing follows it
pub quote_closes : (quote : ℕ) (cs : List ℕ) → closes quote (quote ∷ cs) ≡ is_nil cs
quote_closes quote [] = same quote
quote_closes quote (d ∷ cs) = rw (same quote) refl

-- another character than the quote doesn't close the part
pub last_opens : (quote c : ℕ) → (c == quote) ≡ false → closes quote (c ∷ []) ≡ false
last_opens quote c other = other

-- after a run the first character that isn't the quote is a backslash
run_ends : (quote c : ℕ) (cs : List ℕ) → not (is_inside quote c) ≡ true → (c == quote) ≡ false →
    (c == backslash) ≡ true
run_ends quote c cs ends other =
    let f : not (not (false || (c == backslash))) ≡ true = rw other at ends in
    elim (cases_Bool (c == backslash)) [ inl is ↦ is | inr not_it ↦ absurd (let g = rw not_it at f in cc) ]

-- the character after a backslash is passed
pub pair_closes : (quote c d : ℕ) (cs : List ℕ) → not (is_inside quote c) ≡ true → (c == quote) ≡ false →
    closes quote (c ∷ d ∷ cs) ≡ closes quote cs
pair_closes quote c d cs ends other = rw (other, run_ends quote c cs ends other) refl
