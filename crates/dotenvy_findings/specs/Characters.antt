-- Characters that are easily mistaken for others, and what a text begins with.
use Rattle.std.specs.List.{starts_with}
use Rattle.std.specs.Prelude.{ℕ, Bool, false, not, ◌||◌, ◌&&◌, ◌==◌, codes, drop, nat_eq, List, []}
use Rattle.std.specs.Prelude.{◌∷◌, Option, Some, None, if◌then◌else◌}
use Rattle.dotenvy_format.specs.Characters.{begins_key, begins_passing, carriage_return}
use Rattle.dotenvy_format.specs.Characters.{continues_key}
use Rattle.dotenvy_format.specs.Characters.{equals_sign, line_feed}
use Rattle.dotenvy_format.specs.Characters.{is_name_character, is_space_or_tab}
use Rattle.dotenvy_format.specs.declared.dialect.Dialect.TheVariants.{V15}

-- a typographic quote
abbrev pub is_typographic : ℕ → Bool
is_typographic c =
    (c == 0x201c || c == 0x201d || c == 0x2018 || c == 0x2019 || c == 0x201e || c == 0xab)

-- a character that looks like a space, or like nothing, and is neither a space nor a tab
abbrev pub is_odd_space : ℕ → Bool
is_odd_space c =
    c == 0xa0 || c == 0x85 || c == 0x200b || c == 0x2003 || c == 0x2007 || c == 0x2009
    || c == 0x202f || c == 0x205f || c == 0x2060 || c == 0x3000 || c == 0xfeff

-- there is a character, and it is a letter or a number
abbrev pub is_letter : Option ℕ → Bool
is_letter None = false
is_letter (Some c) = is_name_character V15 c

-- a text without spaces and tabs at its start
abbrev pub skip_spaces : List ℕ → List ℕ
skip_spaces [] = []
skip_spaces (c ∷ cs) = if is_space_or_tab c then skip_spaces cs else c ∷ cs

-- a character that is no end of a line, and no equals sign
abbrev pub is_of_value : ℕ → Bool
is_of_value c = not (c == line_feed || c == carriage_return || c == equals_sign)

-- a text goes on with characters of keys, then with an equals sign, and with a value on its line
abbrev pub goes_on_to_value : List ℕ → Bool
goes_on_to_value [] = false
goes_on_to_value (c ∷ cs) =
    if c == equals_sign then begins_passing is_of_value cs
    else continues_key c && goes_on_to_value cs

-- a text without spaces, tabs and `export` at its start
abbrev pub skip_export : List ℕ → List ℕ
skip_export text =
    if starts_with nat_eq (skip_spaces text) (codes "export ")
    then skip_spaces (drop 7 (skip_spaces text)) else skip_spaces text

-- a text begins a declaration that has a value: perhaps `export`, then a key, and right behind it
-- an equals sign and a character of the line that is none
abbrev pub begins_declaration : List ℕ → Bool
begins_declaration text =
    begins_passing begins_key (skip_export text) && goes_on_to_value (skip_export text)

-- the first character, if there is one
abbrev pub first_of : List ℕ → Option ℕ
first_of [] = None
first_of (c ∷ cs) = Some c
