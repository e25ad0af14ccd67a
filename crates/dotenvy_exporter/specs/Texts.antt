-- Cuts of texts that several readers make. A text is a list of Unicode scalar values.
use Rattle.std.specs.Prelude.{ℕ, Bool, true, false, not, ◌==◌, ◌&&◌, List, [], ◌∷◌, if◌then◌else◌}
use Rattle.std.specs.Prelude.{Option, Some, None}
use Rattle.std.specs.List.{list_any}
use Rattle.dotenvy_format.specs.Characters.{equals_sign}

-- a name and its value, by their characters
abbrev pub Pair : Type 0
Pair = List ℕ × List ℕ

-- the byte order mark as a character
abbrev pub mark_character : ℕ
mark_character = 0xFEFF

-- the text begins with a byte order mark
abbrev pub begins_with_mark : List ℕ → Bool
begins_with_mark [] = false
begins_with_mark (c ∷ cs) = c == mark_character

-- the hyphen
abbrev pub hyphen : ℕ
hyphen = 45

-- the semicolon
abbrev pub semicolon : ℕ
semicolon = 59

-- the character is in the text
abbrev pub has : ℕ → List ℕ → Bool
has c text = list_any (λ d. d == c) text

-- the lines with c put in front of the first
abbrev pub onto_first : ℕ → List (List ℕ) → List (List ℕ)
onto_first c [] = (c ∷ []) ∷ []
onto_first c (line ∷ lines) = (c ∷ line) ∷ lines

-- the parts with c put in front of the first
abbrev pub onto_part : ℕ → Option Pair → Option Pair
onto_part c None = None
onto_part c (Some (name, value)) = Some (c ∷ name, value)

-- what is before and after the first `=`, if there is one
abbrev pub split_at_equals : List ℕ → Option Pair
split_at_equals [] = None
split_at_equals (c ∷ cs) =
    if c == equals_sign then Some ([], cs) else onto_part c (split_at_equals cs)

-- the two texts are the same
abbrev pub same : List ℕ → List ℕ → Bool
same [] [] = true
same [] (d ∷ ds) = false
same (c ∷ cs) [] = false
same (c ∷ cs) (d ∷ ds) = c == d && same cs ds

-- none of these pairs has the name
abbrev pub is_new : List ℕ → List Pair → Bool
is_new name [] = true
is_new name ((other, value) ∷ pairs) = not (same name other) && is_new name pairs

-- no two pairs have the same name
abbrev pub has_distinct : List Pair → Bool
has_distinct [] = true
has_distinct ((name, value) ∷ pairs) = is_new name pairs && has_distinct pairs

-- the pair put before the others, if these are known
abbrev pub onto_pairs : Pair → Option (List Pair) → Option (List Pair)
onto_pairs pair None = None
onto_pairs pair (Some pairs) = Some (pair ∷ pairs)

-- the pair put before the others, if these are known and none has its name
abbrev pub onto_new : Pair → Option (List Pair) → Option (List Pair)
onto_new pair None = None
onto_new (name, value) (Some pairs) =
    if is_new name pairs then Some ((name, value) ∷ pairs) else None
