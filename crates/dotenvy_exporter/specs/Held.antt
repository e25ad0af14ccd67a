-- What docker can hold at all, whatever is written.
use Rattle.std.specs.Prelude.{ℕ, ◌≡◌, false, List, [], ◌∷◌, Some, IsTrue, Bool, not, ◌&&◌, ◌||◌}
use Rattle.std.specs.Prelude.{◌==◌}
use Rattle.std.specs.Char.{is_whitespace}
use Rattle.dotenvy_format.specs.Characters.{line_feed, hash, equals_sign}
use Rattle.dotenvy_exporter.specs.Texts.{has}
use Rattle.dotenvy_exporter.specs.Docker.{Item, Gives, Asks, is_docker_name, docker_reads}

-- white space and `#` begin no name
abbrev pub begins_docker_name : List ℕ → Bool
begins_docker_name [] = false
begins_docker_name (c ∷ cs) = not (is_whitespace c || c == hash)

-- a name that docker can give, and a value in one line
abbrev pub could_hold : List ℕ → List ℕ → Bool
could_hold name value =
    (begins_docker_name name && is_docker_name name)
    && (not (has equals_sign name) && (not (has line_feed name) && not (has line_feed value)))

-- each item gives such a pair, or asks for a name
abbrev pub AllCould : List Item → Type 0
AllCould [] = Unit {0}
AllCould (Gives name value ∷ items) = IsTrue (could_hold name value) × AllCould items
AllCould (Asks name ∷ items) = AllCould items

-- whatever is written, docker reads of it no other pairs: so a pair that is not such can be written
-- in no way
abbrev pub DockerHoldsNoOther : Type 0
DockerHoldsNoOther =
    (text : List ℕ) (items : List Item) → docker_reads text ≡ Some items → AllCould items
