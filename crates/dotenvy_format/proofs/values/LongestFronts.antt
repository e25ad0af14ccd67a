-- The place of a fault: no longer front begins a statement or a value, and a text has one place alone.
use Rattle.std.proofs.Common.{◌≡◌, ℕ, ◌≤◌, ◌<◌, suc, List, ◌++◌, take, drop, subst, arith}
use Rattle.std.proofs.lemmas.List.{take-append-drop, take-take}
use Rattle.dotenvy_format.specs.Laws.{CompletedByText, NoLongerBegins, PlacesAreLongest}
use Rattle.dotenvy_format.specs.Places.{BeginsStatement, BeginsValue, IsPlace}
use Rattle.dotenvy_format.proofs.statements.StatementPlaces.{statement_by_text, statement_fronts}
use Rattle.dotenvy_format.proofs.values.ValuePlaces.{value_by_text, value_fronts}

-- where a text begins what is to come, so does each front of it
abbrev pub AreFronts : (List ℕ → Type 0) → Type 0
AreFronts Begins = (text more : List ℕ) → Begins (text ++ more) → Begins text

-- the first n characters of a text are a front of its first m, where n is at most m
take-front : (n m : ℕ) (text : List ℕ) → n ≤ m → (more : List ℕ) × (take m text ≡ take n text ++ more)
take-front n m text h = (drop n (take m text), cc (take-append-drop n (take m text), take-take n m text h))

-- where each front of a front is one, no longer front than that of a place begins what is to come
no_longer : (Begins : List ℕ → Type 0) → AreFronts Begins → (text : List ℕ) (n : ℕ) → IsPlace Begins text n →
    NoLongerBegins Begins text n
no_longer Begins fronts text n place m longer within begins =
    let f = take-front (suc n) m text (omega (arith, longer)) in
    place.longest (omega (arith, longer, within)) (fronts (take (suc n) text) f.0 (subst Begins f.1 begins))

-- where each front of a front is one, a text has one place alone
pub one_place : (Begins : List ℕ → Type 0) → AreFronts Begins → (text : List ℕ) (n m : ℕ) → IsPlace Begins text n →
    IsPlace Begins text m → n ≡ m
one_place Begins fronts text n m p q =
    let a : ¬ (n < m) = λ h. no_longer Begins fronts text n p m h q.within q.completed in
    let b : ¬ (m < n) = λ h. no_longer Begins fronts text m q n h p.within p.completed in omega (arith, a, b)

-- the place of a fault is that of the longest front
pub places_are_longest : PlacesAreLongest
places_are_longest = (
  no_longer BeginsStatement statement_fronts,
  λ dialect. no_longer (BeginsValue dialect) (value_fronts dialect),
)

-- what can be completed can be by a text
pub completed_by_text : CompletedByText
completed_by_text = (statement_by_text, value_by_text)
