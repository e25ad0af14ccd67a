-- The tokens of a logical line. The splitter takes each token as a whole.
use Rattle.std.specs.Prelude.{ℕ, Bool, true, not, ◌||◌, ◌==◌, List, [], ◌∷◌, ◌++◌, IsTrue}
use Rattle.std.specs.List.{flat_map, list_all}
use Rattle.dotenvy_format.specs.Characters.{is_blank, is_quote, begins_passing, line_feed, backslash, hash}

-- one item between quotes: a single character, or a backslash with the character after it
pub data QuotedCharacter : Type 0 where
  one : ℕ → QuotedCharacter
  pair : ℕ → QuotedCharacter

-- a token: one character; a backslash and a character; a quoted part; a blank and a character; or a blank alone
pub data Token : Type 0 where
  one_character : ℕ → Token
  backslash_pair : ℕ → Token
  quoted : ℕ → List QuotedCharacter → Token
  blank_pair : ℕ → ℕ → Token
  blank : ℕ → Token

-- the text of one item between quotes
abbrev pub quoted_text : QuotedCharacter → List ℕ
quoted_text (one c) = c ∷ []
quoted_text (pair c) = backslash ∷ c ∷ []

-- the text of a token
abbrev pub token_text : Token → List ℕ
token_text (one_character c) = c ∷ []
token_text (backslash_pair c) = backslash ∷ c ∷ []
token_text (quoted quote inner) = quote ∷ flat_map quoted_text inner ++ quote ∷ []
token_text (blank_pair b c) = b ∷ c ∷ []
token_text (blank b) = b ∷ []

-- the text of a row of tokens
abbrev pub tokens_text : List Token → List ℕ
tokens_text tokens = flat_map token_text tokens

-- this may be between these quotes: a character other than the quote and a backslash, or a backslash and any character
abbrev pub is_quoted : ℕ → QuotedCharacter → Bool
is_quoted quote (one c) = not (c == quote || c == backslash)
is_quoted quote (pair c) = true

-- a backslash, a quote or a line feed: a blank before one of these is a token by itself
abbrev pub stands_for_itself : ℕ → Bool
stands_for_itself c = (c == backslash || is_quote c) || c == line_feed

-- the text begins with a backslash, a quote or a line feed
abbrev pub is_before_break : List ℕ → Bool
is_before_break text = begins_passing stands_for_itself text

-- this may be a token before this text; no token has a line feed outside quotes
abbrev pub IsToken : Token → List ℕ → Type 0
IsToken (one_character c) after = IsTrue (not (is_blank c || stands_for_itself c))
IsToken (backslash_pair c) after = IsTrue (not (c == line_feed))
IsToken (quoted quote inner) after =
    IsTrue (is_quote quote) × IsTrue (list_all (is_quoted quote) inner)
IsToken (blank_pair b c) after =
    IsTrue (is_blank b) × IsTrue (not (c == hash || stands_for_itself c))
IsToken (blank b) after = IsTrue (is_blank b) × IsTrue (is_before_break after)

-- these may be tokens in a row, before this text
abbrev pub AreTokens : List Token → List ℕ → Type 0
AreTokens [] after = Unit {0}
AreTokens (token ∷ tokens) after =
    IsToken token (tokens_text tokens ++ after) × AreTokens tokens after
