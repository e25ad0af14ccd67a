-- The name of a file as a reference to it in a URI.
use Rattle.std.specs.Prelude.{ℕ, Bool, ◌||◌, ◌==◌, List, [], ◌∷◌, if◌then◌else◌}
use Rattle.std.specs.Char.{is_ascii_alphanumeric}
use Rattle.std.specs.List.{flat_map}
use Rattle.percent_encoding.specs.Percent.{percent_encode_byte}

-- the byte stands for itself: a letter or digit of ASCII, a dash, a dot, `_`, `~` or a slash
abbrev pub is_kept : ℕ → Bool
is_kept byte =
    is_ascii_alphanumeric byte
    || ((byte == 45 || byte == 46) || ((byte == 95 || byte == 126) || byte == 47))

-- what a byte becomes: itself, or `%` and its two hexadecimal digits
abbrev pub uri_byte : ℕ → List ℕ
uri_byte byte = if is_kept byte then byte ∷ [] else percent_encode_byte byte

-- the reference to a file with this name
abbrev pub uri : List ℕ → List ℕ
uri name = flat_map uri_byte name
