-- A text on one line.
use Rattle.std.specs.Prelude.{ℕ, Bool, ◌||◌, ◌&&◌, List, [], ◌∷◌, encode_utf8_all}
use Rattle.std.specs.Prelude.{if◌then◌else◌, nat_le}
use Rattle.std.specs.Char.{is_control}
use Rattle.std.specs.Char.Escape.{escape_default}
use Rattle.std.specs.List.{flat_map}

-- the number is one of those from the first to the last
abbrev pub is_within : ℕ → ℕ → ℕ → Bool
is_within first last c = nat_le first c && nat_le c last

-- the character could end a line, or turn the direction of what follows: a control character,
-- U+2028, U+2029, U+202A to U+202E, U+2066 to U+2069
abbrev pub breaks_line : ℕ → Bool
breaks_line c = is_control c || (is_within 8232 8238 c || is_within 8294 8297 c)

-- a character as it is shown: one that could break the line as its escape
abbrev pub shown_character : ℕ → List ℕ
shown_character c = if breaks_line c then escape_default c else c ∷ []

-- the bytes of a text as it is shown, on one line
abbrev pub on_one_line : List ℕ → List ℕ
on_one_line text = encode_utf8_all (flat_map shown_character text)
