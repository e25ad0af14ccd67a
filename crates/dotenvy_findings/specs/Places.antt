-- Places of characters: the physical line and the column, both counted from 1. Counts stop at the
-- greatest number of 64 bits.
use Rattle.std.specs.Prelude.{ℕ, ◌+◌, ◌-◌, ◌^◌, ◌==◌, min, List, [], ◌∷◌, if◌then◌else◌}
use Rattle.dotenvy_format.specs.Characters.{line_feed}
use Rattle.dotenvy_findings.specs.declared.place.Place.{Place}

-- one more, or the greatest number of 64 bits
abbrev pub one_more : ℕ → ℕ
one_more n = min (n + 1) (2 ^ 64 - 1)

-- the place after this character, which is at this place
abbrev pub next_place : Place → ℕ → Place
next_place place c =
    if c == line_feed then record { line = one_more place.line; column = 1 }
    else record { line = place.line; column = one_more place.column }

-- the place after this text, which begins at this place
abbrev pub place_after : Place → List ℕ → Place
place_after place [] = place
place_after place (c ∷ cs) = place_after (next_place place c) cs
