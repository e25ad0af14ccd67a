-- The places to which bytes lead a search for the end of a line.
use Rattle.std.proofs.Common.{◌≡◌, ℕ, true, List, [], ◌∷◌, ◌++◌, refl, sym, ap, Some, None, inl, inr}
use Rattle.std.specs.Prelude.{◌==◌, Option}
use Rattle.std.proofs.lemmas.Bool.{cases_Bool, eqb-true}
use Rattle.dotenvy_format.specs.Characters.{line_feed}
use Rattle.dotenvy_format.specs.PhysicalLines.{no_line_feed}
use Rattle.dotenvy_format.specs.inside.LineEnd.{Place, between, between_escape, ends_line, from_line_end, place_leads}
use Rattle.dotenvy_format.specs.inside.LineEnd.{searched, unquoted, unquoted_escape}

-- a place that bytes lead to goes on, if there is one
abbrev pub onward : Option Place → (Place → Option Place) → Option Place
onward None next = None
onward (Some place) next = next place

-- the place that bytes lead to, if neither the line nor the search ends before
abbrev pub place_after : Place → List ℕ → Option Place
place_after place [] = Some place
place_after place (b ∷ bytes) = onward (place_leads place b) (λ next. place_after next bytes)

-- where it goes on, there is one
pub on_some : (place : Option Place) (next : Place → Option Place) {there : Place} → onward place next ≡ Some there
    → (n : Place) × (place ≡ Some n) × (next n ≡ Some there)
on_some None next h = cc
on_some (Some n) next h = (n, refl, h)

-- where a search ends: what is before leads to a place at which the next byte ends the line
pub record Found (place : Place) (bytes end : List ℕ) : Type 0 where
  pub front : List ℕ
  pub spelled : bytes ≡ front ++ end
  pub there : Place
  pub led : place_after place front ≡ Some there
  pub byte : ℕ
  pub behind : List ℕ
  pub begins : end ≡ byte ∷ behind
  pub ends : ends_line there byte ≡ true

-- what is found from the next place on is found from this one
found_next : (place : Place) (b : ℕ) (bytes end : List ℕ) (next : Option Place) → place_leads place b ≡ next
    → searched next (λ n. from_line_end n bytes) ≡ Some end
    → ((n : Place) → from_line_end n bytes ≡ Some end → Found n bytes end) → Found place (b ∷ bytes) end
found_next place b bytes end None e h later = let none : None ≡ Some end = h in cc
found_next place b bytes end (Some n) e h later =
    let it = later n h in record {
      front = b ∷ it.front;
      spelled = ap (λ more. b ∷ more) it.spelled;
      there = it.there;
      led = rw e it.led;
      byte = it.byte;
      behind = it.behind;
      begins = it.begins;
      ends = it.ends;
    }

pub found : (place : Place) (bytes end : List ℕ) → from_line_end place bytes ≡ Some end → Found place bytes end
found place [] end h = let none : None ≡ Some end = h in cc
found place (b ∷ bytes) end h =
    elim (cases_Bool (ends_line place b)) [
      | inl is ↦
          let some : Some (b ∷ bytes) ≡ Some end = rw is at h in
          let same : b ∷ bytes ≡ end = cc in record {
            front = [];
            spelled = same;
            there = place;
            led = refl;
            byte = b;
            behind = bytes;
            begins = sym same;
            ends = is;
          }
      | inr goes ↦
          found_next place b bytes end (place_leads place b) refl (rw goes at h) (λ n. found n bytes end)
    ]

-- a line feed leads nowhere
feed_stops : (place : Place) → place_leads place line_feed ≡ None
feed_stops (unquoted blanks) = refl
feed_stops unquoted_escape = refl
feed_stops (between quote) = refl
feed_stops (between_escape quote) = refl

pub no_feed : (place next : Place) (b : ℕ) → (b == line_feed) ≡ true → place_leads place b ≡ Some next → ⊥
no_feed place next b is h =
    let none : None ≡ Some next = rw (eqb-true b line_feed is, feed_stops place) at h in cc

-- so there is none in what was passed
pub led_none : (place there : Place) (bytes : List ℕ) → place_after place bytes ≡ Some there → no_line_feed bytes ≡ true
led_none place there [] h = refl
led_none place there (b ∷ bytes) h =
    elim (cases_Bool (b == line_feed)) [
      | inl is ↦ let none : None ≡ Some there = rw (eqb-true b line_feed is, feed_stops place) at h in cc
      | inr other ↦
          let one = on_some (place_leads place b) (λ next. place_after next bytes) h in
          rw other (led_none one.0 there bytes one.2)
    ]

-- where they lead to a place, it goes on from there
onward_from : (place : Option Place) (n there : Place) (next : Place → Option Place) → place ≡ Some n
    → next n ≡ Some there → onward place next ≡ Some there
onward_from place n there next led goes = rw led goes

-- the place behind two texts is reached from the place behind the first
pub after_both : (place : Place) (xs ys : List ℕ) {there : Place} → place_after place (xs ++ ys) ≡ Some there
    → (n : Place) × (place_after place xs ≡ Some n) × (place_after n ys ≡ Some there)
after_both place [] ys h = (place, refl, h)
after_both place (x ∷ xs) ys h =
    let one = on_some (place_leads place x) (λ next. place_after next (xs ++ ys)) h in
    let later = after_both one.0 xs ys one.2 in (
      later.0,
      onward_from (place_leads place x) one.0 later.0 (λ next. place_after next xs) one.1 later.1,
      later.2,
    )
