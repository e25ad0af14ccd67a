-- What makes a comparison differ.
use Rattle.std.specs.Prelude.{Bool, not, bytes_eq, string_bytes}
use Rattle.std.specs.Cmp.Lexicographic.{pointwise}
use Rattle.std.specs.declared.string.String.{String}
use Rattle.test_comparison.specs.declared.Comparison.{Comparison}

-- the texts have the same bytes
abbrev pub same_text : {A : Type 0} → String A → String A → Bool
same_text text other = bytes_eq (string_bytes text) (string_bytes other)

-- more or fewer texts than wanted, or another one
abbrev pub is_difference : Comparison → Bool
is_difference comparison = not (pointwise same_text comparison.wanted.items comparison.got.items)
