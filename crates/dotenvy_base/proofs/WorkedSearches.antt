-- Worked searches.
use Rattle.std.proofs.Common.{◌≡◌, ℕ, List, [], ◌∷◌, map, refl, sym, ap, inl, inr}
use Rattle.std.specs.Prelude.{codes, not, if◌then◌else◌}
use Rattle.dotenvy_base.specs.declared.search.Look.{Look}
use Rattle.dotenvy_base.specs.Search.{SearchEnd, FoundNowhere, EndedBy, is_not_found, path_in, AreAsked}
use Rattle.dotenvy_base.specs.Search.{search_answer, Searches}
use Rattle.dotenvy_base.specs.WorkedSearches.{HaveSearches}

-- the directories from /a/b up
abbrev from_b : List (List ℕ)
from_b = codes "/a/b" ∷ codes "/a" ∷ codes "/" ∷ []

-- a search from /a/b asks for the paths of these
searches_b : {name : List ℕ} {asked : List (List ℕ × Look)} {answer : SearchEnd} →
    AreAsked (map (λ d. path_in d name) from_b) asked → answer ≡ search_answer asked →
    Searches (codes "/a/b") name asked answer
searches_b asks answers = record {
  directories = from_b;
  ascends = (refl, refl, (refl, refl, (refl, refl)));
  are_asked = asks;
  answers = answers;
}

-- each worked search asks for the paths that it lists, and has its answer
pub searches : HaveSearches
searches denied missing denies misses = (
  searches_b (refl, inr (refl, (refl, inl (refl, refl)))) refl,
  record {
    directories = codes "a" ∷ [] ∷ [];
    ascends = (refl, refl, (refl, refl));
    are_asked = (refl, inr (refl, (refl, inl (refl, refl))));
    answers = refl;
  },
  searches_b (refl, inr (refl, (refl, inl (ap (λ k. not (is_not_found k)) denies, refl))))
      (sym (ap (λ k. if is_not_found k then FoundNowhere else EndedBy denied) denies)),
  searches_b (refl, inr (refl, (refl, inr (refl, (refl, inr (ap (λ k. not (not (is_not_found k))) misses, refl))))))
      (sym (ap (λ k. if is_not_found k then FoundNowhere else EndedBy missing) misses)),
  searches_b (refl, inr (refl, (refl, inr (refl, (refl, inr (refl, refl)))))) refl,
)
