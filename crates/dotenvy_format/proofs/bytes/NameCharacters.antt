-- Characters that are no name characters, under either dialect, and the ASCII characters that are.
use Rattle.std.proofs.Common.{◌≡◌, ℕ, ◌<◌, true, false, refl, sym}
use Rattle.std.proofs.lemmas.Bool.{and_right, agree_below, agree_below_at}
use Rattle.dotenvy_format.specs.declared.dialect.Dialect.{Dialect}
use Rattle.dotenvy_format.specs.declared.dialect.Dialect.TheVariants.{V15, Next}
use Rattle.dotenvy_format.specs.Characters.{is_name_character, dollar, left_brace, double_quote, space}
use Rattle.dotenvy_format.specs.Characters.{allows_underscore}
use Rattle.dotenvy_format.specs.inside.Slices.{is_name_byte}
use Rattle.unicode.proofs.DerivedComputing.{ucd_derived}
use Rattle.unicode.proofs.CategoryComputing.{ucd_category}

-- a dollar, a left brace, a double quote and a space are no name characters, in either dialect
pub no_names : (dialect : Dialect) →
    (is_name_character dialect dollar ≡ false) × (is_name_character dialect left_brace ≡ false)
    × (is_name_character dialect double_quote ≡ false) × (is_name_character dialect space ≡ false)
unfolding is_name_character ucd_derived ucd_category
no_names dialect = let none = and_right (allows_underscore dialect) false refl in (none, none, none, none)

-- of all codes below 128, the name characters are those that pass as ASCII characters of a bare name
named_below : (dialect : Dialect) → agree_below (is_name_byte dialect) (is_name_character dialect) 128 ≡ true
unfolding is_name_character ucd_derived ucd_category
named_below V15 = refl
named_below Next = refl

-- an ASCII character is a name character where it passes as one of a bare name
pub ascii_names : (dialect : Dialect) (c : ℕ) → c < 128 → is_name_byte dialect c ≡ is_name_character dialect c
ascii_names dialect c small =
    agree_below_at (is_name_byte dialect) (is_name_character dialect) 128 c (named_below dialect) small

-- an ASCII character that passes as one of a bare name is a name character
pub ascii_name : (dialect : Dialect) (c : ℕ) → c < 128 → is_name_byte dialect c ≡ true
    → is_name_character dialect c ≡ true
ascii_name dialect c small h = sym (rw h at (ascii_names dialect c small))
