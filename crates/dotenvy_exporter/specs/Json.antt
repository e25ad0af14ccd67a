-- A JSON object of texts: what a reader of JSON reads of it, and what is written. It reads nothing (None) of bytes that
-- are no object of texts, or if a name is there twice.
use Rattle.std.specs.Prelude.{ℕ, List, [], ◌∷◌, ◌++◌, if◌then◌else◌, Option, Some, None}
use Rattle.std.specs.Prelude.{encode_utf8_all}
use Rattle.std.specs.List.{flat_map}
use Rattle.std.specs.Str.{is_utf8, chars}
use Rattle.json.specs.Lex.{tokens}
use Rattle.json.specs.Print.{print}
use Rattle.json.specs.Token.{Token, begin_object, end_object, key, string}
use Rattle.dotenvy_format.specs.Characters.{line_feed}
use Rattle.dotenvy_exporter.specs.Texts.{Pair, onto_new}

-- the pairs of members up to the end of the object, which ends the text; None where a value is no
-- text, and where a name is there twice, since readers differ there
abbrev pub member_pairs : List Token → Option (List Pair)
member_pairs (end_object ∷ []) = Some []
member_pairs (key name ∷ string value ∷ ts) =
    onto_new (chars name, chars value) (member_pairs ts)
member_pairs ts = None

-- the pairs of an object of texts that is the whole text
abbrev pub object_pairs : List Token → Option (List Pair)
object_pairs (begin_object ∷ ts) = member_pairs ts
object_pairs ts = None

-- what a reader of JSON reads of bytes as an object of texts; it refuses what is not UTF-8
abbrev pub json_reads_bytes : List ℕ → Option (List Pair)
json_reads_bytes bytes = if is_utf8 bytes then object_pairs (tokens bytes) else None

-- the member of a pair
abbrev pub member : Pair → List Token
member (name, value) = key (encode_utf8_all name) ∷ string (encode_utf8_all value) ∷ []

-- the object of pairs
abbrev pub object_tokens : List Pair → List Token
object_tokens pairs = begin_object ∷ (flat_map member pairs ++ end_object ∷ [])

-- what is written for pairs: the object on one line, and a line feed
abbrev pub json_bytes : List Pair → List ℕ
json_bytes pairs = print (object_tokens pairs) ++ line_feed ∷ []
