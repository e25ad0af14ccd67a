-- What is found of words. A word is its bytes.
use Rattle.std.specs.Prelude.{Bool, false, List, [], codes, if◌then◌else◌, map, string_bytes, unwrap_or}
use Rattle.std.specs.Option.{option_map_or}
use Rattle.std.specs.Str.{bytes_eq}
use Rattle.std.specs.declared.string.String.{String}
use Rattle.clap.specs.Words.{Row, Text, all_of, first_of}
use Rattle.dotenvy_format.specs.declared.dialect.Dialect.{Dialect}
use Rattle.dotenvy_format.specs.declared.dialect.Dialect.TheVariants.{V15, Next}

-- words, as bytes
abbrev pub texts : {A : Type 0} → List (String A) → List Text
texts words = map string_bytes words

-- an option without a value was found
abbrev pub is_on : Text → List Row → Bool
is_on name rows = option_map_or (λ value. bytes_eq value (codes "true")) (first_of name rows) false

-- the values of an option, in their order
abbrev pub values_of : Text → List Row → List Text
values_of name rows = unwrap_or (all_of name rows) []

-- the dialect that is asked for
abbrev pub dialect_of : List Row → Dialect
dialect_of rows = if is_on (codes "next") rows then Next else V15
