-- The law of the search.
use Rattle.std.specs.Prelude.{◌≡◌, ℕ, List}
use Rattle.dotenvy_base.specs.declared.search.Look.{Look}
use Rattle.dotenvy_base.specs.Search as search

-- whatever is at each path, a search asks for one list of paths and has one answer
abbrev pub HasOneSearch : Type 0
HasOneSearch =
    (directory name : List ℕ) (looks : ℕ → Look) →
    (asked : List (List ℕ × Look)) × (answer : search.SearchEnd)
    × search.Searches directory name asked answer × search.Sees looks asked
    × ((others : List (List ℕ × Look)) (other : search.SearchEnd) →
    search.Searches directory name others other → search.Sees looks others →
    (others ≡ asked) × (other ≡ answer))
