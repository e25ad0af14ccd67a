-- The characters that the format names, and its classes of characters.
-- A character is its Unicode scalar value, a text a list of these.
use Rattle.std.specs.Prelude.{ℕ, Bool, true, false, not, ◌&&◌, ◌||◌, ◌==◌, nat_le, List, [], ◌∷◌}
use Rattle.std.specs.Prelude.{encode_utf8_all, length}
use Rattle.std.specs.Char.{is_whitespace, is_ascii_alphabetic, is_ascii_digit}
use Rattle.unicode.specs.Binary.{is_alphabetic}
use Rattle.unicode.specs.GeneralCategory.{general_category, general_category_number}
use Rattle.dotenvy_format.specs.declared.dialect.Dialect.{Dialect}
use Rattle.dotenvy_format.specs.declared.dialect.Dialect.TheVariants.{V15, Next}

-- the characters that the format names, in the order of their codes
abbrev pub tab : ℕ
tab = 9

abbrev pub line_feed : ℕ
line_feed = 10

abbrev pub carriage_return : ℕ
carriage_return = 13

abbrev pub space : ℕ
space = 32

abbrev pub double_quote : ℕ
double_quote = 34

abbrev pub hash : ℕ
hash = 35

abbrev pub dollar : ℕ
dollar = 36

abbrev pub single_quote : ℕ
single_quote = 39

abbrev pub full_stop : ℕ
full_stop = 46

abbrev pub equals_sign : ℕ
equals_sign = 61

abbrev pub backslash : ℕ
backslash = 92

abbrev pub underscore : ℕ
underscore = 95

abbrev pub letter_n : ℕ
letter_n = 110

abbrev pub left_brace : ℕ
left_brace = 123

abbrev pub right_brace : ℕ
right_brace = 125

-- white space other than a line feed and a carriage return
abbrev pub is_blank : ℕ → Bool
is_blank c = is_whitespace c && not (c == line_feed || c == carriage_return)

-- a single or a double quote
abbrev pub is_quote : ℕ → Bool
is_quote c = c == single_quote || c == double_quote

-- a space or a tab, which ends a value outside quotes
abbrev pub is_space_or_tab : ℕ → Bool
is_space_or_tab c = c == space || c == tab

-- a character that may begin a key
abbrev pub begins_key : ℕ → Bool
begins_key c = is_ascii_alphabetic c || c == underscore

-- a character that may follow in a key
abbrev pub continues_key : ℕ → Bool
continues_key c = (begins_key c || is_ascii_digit c) || c == full_stop

-- the number of a general category of numbers: 8 is Nd (decimal digits), 9 is Nl (letters), 10 is No (others)
abbrev pub is_number_category : ℕ → Bool
is_number_category n = nat_le 8 n && nat_le n 10

-- a bare name (one after a dollar, without braces) may have `_` in this dialect
abbrev pub allows_underscore : Dialect → Bool
allows_underscore V15 = false
allows_underscore Next = true

-- a character of a bare name: alphabetic, in a category of numbers, or `_` where that is allowed
unfoldable pub is_name_character : Dialect → ℕ → Bool
is_name_character dialect c =
    (is_alphabetic c || is_number_category (general_category_number (general_category c)))
    || (allows_underscore dialect && c == underscore)

-- the text has a first character, and it passes the test
abbrev pub begins_passing : (ℕ → Bool) → List ℕ → Bool
begins_passing passes [] = false
begins_passing passes (c ∷ cs) = passes c

-- the text begins with this character
abbrev pub begins_with : ℕ → List ℕ → Bool
begins_with c text = begins_passing (λ d. d == c) text

-- the text is empty, or is a comment: it begins with `#`
abbrev pub is_empty_or_comment : List ℕ → Bool
is_empty_or_comment [] = true
is_empty_or_comment (c ∷ cs) = c == hash

-- the length of the text in bytes, as UTF-8
abbrev pub byte_len : List ℕ → ℕ
byte_len text = length (encode_utf8_all text)
