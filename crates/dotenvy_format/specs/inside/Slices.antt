-- Slices of a text, by its bytes and by its characters.
use Rattle.std.specs.Prelude.{ℕ, ◌≡◌, Bool, true, false, not, ◌&&◌, ◌||◌, ◌==◌, nat_le, nat_lt, List, ◌∷◌}
use Rattle.std.specs.Prelude.{[], ◌++◌, take, IsTrue}
use Rattle.std.specs.Char.{encode_utf8}
use Rattle.std.specs.List.{list_all}
use Rattle.std.specs.Str.{chars, IsUtf8, IsCharBoundary}
use Rattle.dotenvy_format.specs.declared.text.Class.{Class}
use Rattle.dotenvy_format.specs.declared.text.Class.TheVariants.{Key, Name, Plain, SpaceOrTab}
use Rattle.dotenvy_format.specs.declared.text.Class.TheVariants.{DoubleQuote, Token, Quoted, SingleQuoted}
use Rattle.dotenvy_format.specs.declared.text.ByteKind.{ByteKind}
use Rattle.dotenvy_format.specs.declared.text.ByteKind.TheVariants.{Plain as PlainByte}
use Rattle.dotenvy_format.specs.declared.text.ByteKind.TheVariants.{Token as TokenByte}
use Rattle.dotenvy_format.specs.declared.text.ByteKind.TheVariants.{Key as KeyByte, Calm as CalmByte}
use Rattle.dotenvy_format.specs.declared.text.ByteKind.TheVariants.{Inside as InsideByte, Ascii as AsciiByte}
use Rattle.dotenvy_format.specs.declared.text.ByteKind.TheVariants.{Quoted as QuotedByte}
use Rattle.std.specs.Char.{is_ascii_alphanumeric}
use Rattle.dotenvy_format.specs.declared.dialect.Dialect.{Dialect}
use Rattle.dotenvy_format.specs.Characters.{begins_passing, tab, space, hash, underscore, double_quote}
use Rattle.dotenvy_format.specs.Characters.{backslash, single_quote, is_blank, continues_key, allows_underscore}
use Rattle.dotenvy_format.specs.Characters.{line_feed}
use Rattle.dotenvy_format.specs.Characters.{is_name_character, is_space_or_tab}
use Rattle.dotenvy_format.specs.Tokens.{stands_for_itself}
use Rattle.dotenvy_format.specs.Value.{is_plain, is_plain_inside, is_plain_outside}

-- the character is in this class
abbrev pub has_character : Class → ℕ → Bool
has_character Key c = continues_key c
has_character (Name dialect) c = is_name_character dialect c
has_character (Plain quoting) c = is_plain quoting c
has_character SpaceOrTab c = is_space_or_tab c
has_character DoubleQuote c = c == double_quote
has_character Token c = not (is_blank c || stands_for_itself c)
has_character (Quoted quote) c = not (c == quote || c == backslash)
has_character SingleQuoted c = not (c == single_quote)

-- a run of this class ends where its bytes do
abbrev pub ends_by_bytes : Class → Bool
ends_by_bytes Key = true
ends_by_bytes (Name dialect) = false
ends_by_bytes (Plain quoting) = true
ends_by_bytes SpaceOrTab = true
ends_by_bytes DoubleQuote = true
ends_by_bytes Token = false
ends_by_bytes (Quoted quote) = false
ends_by_bytes SingleQuoted = true

-- the first byte is a visible ASCII character
abbrev pub begins_visibly : List ℕ → Bool
begins_visibly [] = false
begins_visibly (b ∷ bytes) = nat_le 33 b && nat_le b 126

-- the byte is an ASCII character of a bare name
abbrev pub is_name_byte : Dialect → ℕ → Bool
is_name_byte dialect b = is_ascii_alphanumeric b || (allows_underscore dialect && b == underscore)

-- the byte is a character of a token or a part of one, and no blank begins with it
abbrev pub is_token_byte : ℕ → Bool
is_token_byte b = not ((stands_for_itself b || ((nat_le tab b && nat_le b 12) || b == space)) ||
    (b == 0xC2 || (nat_le 0xE1 b && nat_le b 0xE3)))

-- the byte, or the character, is no quote, backslash, line feed or `#`
abbrev pub is_calm : ℕ → Bool
is_calm b = not (stands_for_itself b || b == hash)

-- the byte is ASCII, and no line feed
abbrev pub is_ascii_in_line : ℕ → Bool
is_ascii_in_line b = nat_lt b 128 && not (b == line_feed)

-- the byte is no line feed or backslash, and not this quote
abbrev pub is_in_quotes : ℕ → ℕ → Bool
is_in_quotes quote b = not ((b == quote || b == backslash) || b == line_feed)

-- the byte is of this kind
abbrev pub is_of_kind : ByteKind → ℕ → Bool
is_of_kind PlainByte b = is_plain_outside b
is_of_kind TokenByte b = is_token_byte b
is_of_kind KeyByte b = continues_key b
is_of_kind InsideByte b = is_plain_inside b
is_of_kind CalmByte b = is_calm b
is_of_kind AsciiByte b = is_ascii_in_line b
is_of_kind (QuotedByte quote) b = is_in_quotes quote b

-- a run of this class may go on with this byte; some first bytes of long characters are left out
abbrev pub in_run : Class → ℕ → Bool
in_run Key b = continues_key b
in_run (Name dialect) b = is_name_byte dialect b
in_run (Plain quoting) b = is_plain quoting b
in_run SpaceOrTab b = is_space_or_tab b
in_run DoubleQuote b = b == double_quote
in_run Token b = is_token_byte b
in_run (Quoted quote) b = nat_lt quote 128 && is_in_quotes quote b
in_run SingleQuoted b = not (b == single_quote)

-- the text begins with this character, and the rest follows it
pub record BeginsWith (text : List ℕ) (c : ℕ) (rest : List ℕ) : Type 0 where
  pub bytes : text ≡ encode_utf8 c ++ rest
  pub follows : IsUtf8 rest
  pub characters : chars text ≡ c ∷ chars rest

-- the text, or the bytes, are the longest front of characters that pass the test, and the rest
pub record IsSpan (passes : ℕ → Bool) (text front rest : List ℕ) : Type 0 where
  pub spelled : text ≡ front ++ rest
  pub pass : IsTrue (list_all passes front)
  pub longest : IsTrue (not (begins_passing passes rest))

-- the bytes begin with this line and its line feed, and all bytes of the line pass the test
pub record BeginsLine (passes : ℕ → Bool) (bytes line : List ℕ) : Type 0 where
  pub pass : IsTrue (list_all passes line)
  pub later : List ℕ
  pub begins : bytes ≡ line ++ line_feed ∷ later

-- the bytes are some that pass the test, and the rest
pub record PassesBytes (passes : ℕ → Bool) (bytes rest : List ℕ) : Type 0 where
  pub front : List ℕ
  pub spelled : bytes ≡ front ++ rest
  pub pass : IsTrue (list_all passes front)

-- the first `len` bytes are a text whose characters pass the test
pub record PassesTo (passes : ℕ → Bool) (text : List ℕ) (len : ℕ) : Type 0 where
  pub boundary : IsCharBoundary text len
  pub pass : IsTrue (list_all passes (chars (take len text)))
