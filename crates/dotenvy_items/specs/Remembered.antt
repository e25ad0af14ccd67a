-- What was remembered: the last value of each name, and `None` where a name was declared with nothing. Loads ask for
-- it, and add nothing to it.
use Rattle.std.specs.Prelude.{ℕ, List, [], ◌∷◌, map, Option, Some, option_map, string_bytes}
use Rattle.std.specs.Option.{option_flatten}
use Rattle.std.specs.Ordering.{nat_cmp}
use Rattle.std.specs.Cmp.Lexicographic.{slice_cmp}
use Rattle.std.specs.FinMap as fin
use Rattle.std.specs.declared.string.String.{String}

-- names and their values, by their bytes
abbrev pub Remembered : Type 0
Remembered = fin.FinMap (slice_cmp nat_cmp) (Option (List ℕ))

-- the entries of the map that the code keeps
abbrev pub remembered_of : {A : Type 0} → List (String A × Option (String A)) → Remembered
remembered_of entries =
    fin.from_entries (map (λ p. (string_bytes p.0, option_map string_bytes p.1)) entries)

-- the remembered text of a name
abbrev pub recalled : Remembered → List ℕ → Option (List ℕ)
recalled remembered name = option_flatten (fin.get remembered name)

-- what is remembered with these values, each in the place of an earlier one
abbrev pub with_values : List (List ℕ × List ℕ) → Remembered → Remembered
with_values [] remembered = remembered
with_values ((name, value) ∷ values) remembered =
    with_values values (fin.insert remembered name (Some value))
