-- When two environments are the same, by the strings that they hold.
use Rattle.std.proofs.Common.{◌≡◌, Bool, List}
use Rattle.std.specs.Prelude.{◌&&◌, bytes_eq, string_bytes}
use Rattle.std.specs.Cmp.Derive.Mapped.{pointwise-map}
use Rattle.std.specs.Cmp.Lexicographic.{pointwise}
use Rattle.std.specs.List.Sorted.{IsStrictlySortedBy}
use Rattle.std.specs.Map.{keys_of}
use Rattle.std.specs.String.{string_cmp, string_eq}
use Rattle.std.specs.FinMap.{entries}
use Rattle.std.specs.declared.string.String.{String}
use Rattle.dotenvy_base.specs.Environment.{are_same_pairs}
use Rattle.dotenvy_base.proofs.TextMaps.{of_strings, entries-strings}

-- the same strings, pair by pair
abbrev pub are_same_strings : {A : Type 0} → List (String A × String A) → List (String A × String A) → Bool
are_same_strings = pointwise (λ p q. string_eq p.0 q.0 && string_eq p.1 q.1)

-- maps have the same pairs where their strings are the same
pub same_strings : {A : Type 0} (es fs : List (String A × String A)) →
    IsStrictlySortedBy string_cmp (keys_of es) → IsStrictlySortedBy string_cmp (keys_of fs) →
    are_same_pairs (entries (of_strings es)) (entries (of_strings fs)) ≡ are_same_strings es fs
same_strings es fs sorted others = rw (entries-strings es sorted, entries-strings fs others)
    (pointwise-map (λ p. (string_bytes p.0, string_bytes p.1)) (λ p q. bytes_eq p.0 q.0 && bytes_eq p.1 q.1) es fs)
