-- The written form of pairs, which reads back as these pairs.
use Rattle.std.specs.Prelude.{ℕ, Bool, IsTrue, ◌&&◌, ◌||◌, ◌==◌, List, [], ◌∷◌, ◌++◌, if◌then◌else◌}
use Rattle.std.specs.List.{flat_map}
use Rattle.std.specs.Str.{all_scalars, encode_utf8_all}
use Rattle.dotenvy_format.specs.Keys.{is_key}
use Rattle.dotenvy_format.specs.Characters.{double_quote, backslash, dollar, equals_sign, line_feed}

-- the character is written with a backslash before it
abbrev pub needs_backslash : ℕ → Bool
needs_backslash c = (c == backslash || c == double_quote) || c == dollar

-- how a character of a value is written
abbrev pub written_character : ℕ → List ℕ
written_character c = if needs_backslash c then backslash ∷ c ∷ [] else c ∷ []

-- the written form of one pair: KEY="text" and a line feed
abbrev pub written_pair : List ℕ × List ℕ → List ℕ
written_pair (key, text) =
    key ++ equals_sign ∷ double_quote
    ∷ (flat_map written_character text ++ double_quote ∷ line_feed ∷ [])

-- the written form of pairs, one after another
abbrev pub written_text : List (List ℕ × List ℕ) → List ℕ
written_text pairs = flat_map written_pair pairs

-- each pair can be written: its key is a key, and its text a list of Unicode scalar values
abbrev pub AreWritable : List (List ℕ × List ℕ) → Type 0
AreWritable [] = Unit {0}
AreWritable ((key, text) ∷ pairs) = IsTrue (is_key key && all_scalars text) × AreWritable pairs

-- the bytes of the written form
abbrev pub written_bytes : List (List ℕ × List ℕ) → List ℕ
written_bytes pairs = encode_utf8_all (written_text pairs)
