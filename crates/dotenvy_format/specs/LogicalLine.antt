-- Logical lines: how many physical lines make the next one, and what it is.
use Rattle.std.specs.Prelude.{◌≡◌, ℕ, suc, ◌≤◌, ◌<◌, not, ◌==◌, List, [], ◌∷◌, ◌++◌, length, take}
use Rattle.std.specs.Prelude.{Option, Some, None, IsTrue, if◌then◌else◌}
use Rattle.std.specs.Str.{skip_leading_whitespace}
use Rattle.dotenvy_format.specs.Characters.{is_blank, line_feed, carriage_return, backslash, hash, byte_len, begins_with}
use Rattle.dotenvy_format.specs.Tokens.{Token, tokens_text, AreTokens}

-- the end of a line: a line feed; a backslash and a line feed; a blank, `#` and a comment's words; or the input's end
pub data Ending : Type 0 where
  line_end : Ending
  escaped_line_end : Ending
  comment : ℕ → List ℕ → Ending
  input_end : Ending

-- the text of an ending
abbrev pub ending_text : Ending → List ℕ
ending_text line_end = line_feed ∷ []
ending_text escaped_line_end = backslash ∷ line_feed ∷ []
ending_text (comment b words) = b ∷ hash ∷ words
ending_text input_end = []

-- the text has no line feed, except perhaps one at its end
abbrev pub IsOneLine : List ℕ → Type 0
IsOneLine [] = Unit {0}
IsOneLine (c ∷ []) = Unit {0}
IsOneLine (c ∷ d ∷ cs) = IsTrue (not (c == line_feed)) × IsOneLine (d ∷ cs)

-- a line may end so; `last` says that no physical line follows it
abbrev pub IsEnding : Ending → Type 0 → Type 0
IsEnding line_end last = Unit {0}
IsEnding escaped_line_end last = Unit {0}
IsEnding (comment b words) last = IsTrue (is_blank b) × IsOneLine words
IsEnding input_end last = last

-- the text without its last character, if that is a carriage return
abbrev pub without_carriage_return : List ℕ → List ℕ
without_carriage_return [] = []
without_carriage_return (c ∷ []) = if c == carriage_return then [] else c ∷ []
without_carriage_return (c ∷ d ∷ cs) = c ∷ without_carriage_return (d ∷ cs)

-- what is kept of a line: its tokens, and the first character of an ending, but no line feed and no return before it
abbrev pub kept_text : List ℕ → Ending → List ℕ
kept_text tokens line_end = without_carriage_return tokens
kept_text tokens escaped_line_end = tokens ++ backslash ∷ []
kept_text tokens (comment b words) = tokens ++ b ∷ []
kept_text tokens input_end = tokens

-- the whole text is a row of tokens and an ending, of which this text is kept
pub record IsWhole (text kept : List ℕ) (last : Type 0) : Type 0 where
  pub tokens : List Token
  pub ending : Ending
  pub are_tokens : AreTokens tokens (ending_text ending)
  pub is_ending : IsEnding ending last
  pub spelled : text ≡ tokens_text tokens ++ ending_text ending
  pub cut : kept ≡ kept_text (tokens_text tokens) ending

-- the first text joined to the second, or `None` if there is no second
abbrev pub with_text_before : List ℕ → Option (List ℕ) → Option (List ℕ)
with_text_before text None = None
with_text_before text (Some texts) = Some (text ++ texts)

-- the lines joined to one text, or `None` if one of them is broken
abbrev pub joined_text : List (Option (List ℕ)) → Option (List ℕ)
joined_text [] = Some []
joined_text (None ∷ lines) = None
joined_text (Some text ∷ lines) = with_text_before text (joined_text lines)

-- the whole first line is a comment: it begins with `#`, perhaps after white space
abbrev pub IsSkipped : List (Option (List ℕ)) → Type 0
IsSkipped [] = ⊥
IsSkipped (None ∷ lines) = ⊥
IsSkipped (Some text ∷ lines) = IsTrue (begins_with hash (skip_leading_whitespace text))

-- the line with this number, counted from 1, is the first broken one
abbrev pub IsFirstBroken : ℕ → List (Option (List ℕ)) → Type 0
IsFirstBroken number [] = ⊥
IsFirstBroken number (None ∷ lines) = number ≡ 1
IsFirstBroken number (Some text ∷ lines) =
    (earlier : ℕ) × (number ≡ suc earlier) × IsFirstBroken earlier lines

-- a logical line: a skipped line; a text; a text left open at the input's end, with its length in bytes; or a broken
-- line
pub data Logical : Type 0 where
  Skip : Logical
  HasText : List ℕ → Logical
  StaysOpen : List ℕ → ℕ → Logical
  Broken : Logical

-- the first `count` lines together are a whole logical line, of which this text is kept
pub record IsText (lines : List (Option (List ℕ))) (count : ℕ) (kept : List ℕ) : Type 0 where
  pub text : List ℕ
  pub within : count ≤ length lines
  pub joins : joined_text (take count lines) ≡ Some text
  pub whole : IsWhole text kept (count ≡ length lines)

-- the first `count` lines together are the next logical line, and it is this one
abbrev pub IsNext : List (Option (List ℕ)) → ℕ → Logical → Type 0
IsNext lines count Skip = IsSkipped lines × (count ≡ 1)
IsNext lines count (HasText kept) = ¬ (IsSkipped lines) × IsText lines count kept
IsNext lines count (StaysOpen text index) =
    ¬ (IsSkipped lines) × (count ≡ length lines) × (joined_text lines ≡ Some text)
    × ((other : ℕ) (kept : List ℕ) → ¬ (IsText lines other kept))
    × (index ≡ byte_len text)
IsNext lines count Broken =
    ¬ (IsSkipped lines) × IsFirstBroken count lines
    × ((fewer : ℕ) (kept : List ℕ) → fewer < count → ¬ (IsText lines fewer kept))

-- the logical line is an open end
abbrev pub IsOpenEnd : Logical → Type 0
IsOpenEnd Skip = ⊥
IsOpenEnd (HasText kept) = ⊥
IsOpenEnd (StaysOpen text index) = Unit {0}
IsOpenEnd Broken = ⊥
