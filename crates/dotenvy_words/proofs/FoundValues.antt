-- What is read of what was found.
use Rattle.std.proofs.Common.{◌≡◌, false, List, [], Option, refl}
use Rattle.std.specs.Prelude.{codes, unwrap_or}
use Rattle.std.specs.Option.{option_map, option_map_or}
use Rattle.std.specs.Str.{bytes_eq}
use Rattle.clap.specs.Words.{Text, first_of, first_value, matched_of, raw_values, rows_of}
use Rattle.clap.specs.declared.parser.matches.Found.{Found}
use Rattle.clap.proofs.WalkLemmas.{first_value-rows, raw_values-rows}
use Rattle.dotenvy_words.specs.Found.{is_on, values_of}

-- an option was found if its first value says so
pub on_by : (f : Found) (name : Text) (found : Option Text) → found ≡ first_value f name →
    is_on name (rows_of f) ≡ option_map_or (λ value. bytes_eq value (codes "true")) found false
on_by f name found e = rw (← first_value-rows f name, ← e) refl

-- the first value of an option is the one that was found
pub first_by : (f : Found) (name : Text) (found : Option Text) → found ≡ first_value f name →
    first_of name (rows_of f) ≡ found
first_by f name found e = rw (← first_value-rows f name, ← e) refl

-- the values are those that were found, if there are any
pub values_by : (f : Found) (name : Text) (found : Option (List Text)) →
    found ≡ option_map raw_values (matched_of f name) → values_of name (rows_of f) ≡ unwrap_or found []
values_by f name found e = rw (← raw_values-rows f name, ← e) refl
