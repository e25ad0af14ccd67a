-- A written object, as a reader of JSON reads it.
use Rattle.std.proofs.Common.{◌≡◌, ◌∙◌, ℕ, Bool, true, false, ◌&&◌, List, [], ◌∷◌, ◌++◌, refl, sym}
use Rattle.std.proofs.Common.{ap, append_assoc, IsUtf8}
use Rattle.std.specs.Prelude.{Some, encode_utf8_all}
use Rattle.std.specs.List.{flat_map}
use Rattle.std.proofs.Math.Utf8.{scalars}
use Rattle.std.proofs.lemmas.Str.{is_utf8-from_IsUtf8, chars-encodes, IsUtf8-append}
use Rattle.json.specs.Lex.{Lexeme, between, colon, comma, fresh, in_string, lex, punctuate, string_token, token, tokens}
use Rattle.json.specs.Print.{ArePrintable, escape, print_from, quoted, separator}
use Rattle.json.specs.Token.{Token, begin_object, end_object, key, string}
use Rattle.json.proofs.Printed.Strings.{content-escape, lex-escape}
use Rattle.json.proofs.Printed.Tokens.{tokens-print}
use Rattle.json.proofs.Printed.Utf8.{IsUtf8-are_ascii, IsUtf8-key, IsUtf8-quoted, IsUtf8-separator}
use Rattle.dotenvy_format.specs.Characters.{line_feed}
use Rattle.dotenvy_exporter.specs.Json.{json_bytes, json_reads_bytes, member, member_pairs, object_pairs, object_tokens}
use Rattle.dotenvy_exporter.specs.Texts.{Pair}
use Rattle.dotenvy_exporter.proofs.Pairs.{AreMembers}
use Rattle.dotenvy_exporter.proofs.Tests.{and_left, and_right, scalars-append}

-- what follows the brace at the beginning
abbrev rest_tokens : List Pair → List Token
rest_tokens pairs = flat_map member pairs ++ end_object ∷ []

all_printable : (pairs : List Pair) → ArePrintable (rest_tokens pairs)
unfolding ArePrintable
all_printable [] = (tt, tt)
all_printable ((name, value) ∷ pairs) = (tt, (tt, all_printable pairs))

object_printable : (pairs : List Pair) → ArePrintable (object_tokens pairs)
unfolding ArePrintable
object_printable pairs = (tt, all_printable pairs)

-- a printed text is one lexeme, whatever follows
text_lexeme : (s more : List ℕ) → lex between (quoted s ++ more) ≡ token (string s) ∷ lex between more
unfolding lex
text_lexeme s more =
    ap (λ l. lex between (34 ∷ l)) (append_assoc (escape s) (34 ∷ []) more)
    ∙ ap (λ o. token (string_token o) ∷ lex in_string (escape s ++ 34 ∷ more)) (content-escape s more)
    ∙ ap (λ l. token (string s) ∷ l) (lex-escape s more)

-- the lexemes of a member, behind a comma or not, before others
abbrev member_lexemes : Bool → List ℕ → List ℕ → List Lexeme → List Lexeme
member_lexemes false name value ls = token (string name) ∷ colon ∷ token (string value) ∷ ls
member_lexemes true name value ls = comma ∷ token (string name) ∷ colon ∷ token (string value) ∷ ls

-- a printed member, behind a comma or not, before a text
abbrev member_text : Bool → List ℕ → List ℕ → List ℕ → List ℕ
member_text after_value name value more =
    separator after_value (key name) ++ ((quoted name ++ 58 ∷ []) ++ (quoted value ++ more))

plain_member : (name value more : List ℕ) →
    lex between ((quoted name ++ 58 ∷ []) ++ (quoted value ++ more))
    ≡ member_lexemes false name value (lex between more)
unfolding lex
plain_member name value more =
    ap (lex between) (append_assoc (quoted name) (58 ∷ []) (quoted value ++ more))
    ∙ text_lexeme name (58 ∷ (quoted value ++ more))
    ∙ ap (λ l. token (string name) ∷ colon ∷ l) (text_lexeme value more)

read_member : (after_value : Bool) (name value more : List ℕ) →
    lex between (member_text after_value name value more) ≡ member_lexemes after_value name value (lex between more)
unfolding lex
read_member false name value more = plain_member name value more
read_member true name value more = ap (λ l. comma ∷ l) (plain_member name value more)

-- what is behind a member stays behind it
member_first : (after_value : Bool) (name value more behind : List ℕ) →
    member_text after_value name value more ++ behind ≡ member_text after_value name value (more ++ behind)
member_first after_value name value more behind =
    append_assoc (separator after_value (key name)) ((quoted name ++ 58 ∷ []) ++ (quoted value ++ more)) behind
    ∙ ap (λ l. separator after_value (key name) ++ l)
    (append_assoc (quoted name ++ 58 ∷ []) (quoted value ++ more) behind
    ∙ ap (λ l. (quoted name ++ 58 ∷ []) ++ l) (append_assoc (quoted value) more behind))

-- the line feed behind the object changes nothing
feed_ignored : (after_value : Bool) (pairs : List Pair) →
    lex between (print_from after_value (rest_tokens pairs) ++ line_feed ∷ [])
    ≡ lex between (print_from after_value (rest_tokens pairs))
unfolding lex print_from
feed_ignored false [] = refl
feed_ignored true [] = refl
feed_ignored after_value ((name, value) ∷ pairs) =
    let n = encode_utf8_all name in
    let v = encode_utf8_all value in
    let more = print_from true (rest_tokens pairs) in
    ap (lex between) (member_first after_value n v more (line_feed ∷ []))
    ∙ read_member after_value n v (more ++ line_feed ∷ [])
    ∙ ap (member_lexemes after_value n v) (feed_ignored true pairs)
    ∙ sym (read_member after_value n v more)

-- a reader finds the tokens of the object
tokens_read : (pairs : List Pair) → tokens (json_bytes pairs) ≡ object_tokens pairs
unfolding lex print_from
tokens_read pairs =
    ap (λ ls. punctuate fresh (token begin_object ∷ ls)) (feed_ignored false pairs)
    ∙ tokens-print (object_tokens pairs) (object_printable pairs)

-- and in these the pairs
members_read : (pairs : List Pair) → AreMembers pairs → member_pairs (rest_tokens pairs) ≡ Some pairs
members_read [] are = refl
members_read ((name, value) ∷ pairs) are =
    let both : (scalars name && scalars value) ≡ true = rw (scalars-append name value) at are.0 in
    rw (
      chars-encodes name (and_left (scalars name) (scalars value) both),
      chars-encodes value (and_right (scalars name) (scalars value) both),
      members_read pairs are.2,
      are.1,
    ) refl

-- what is written is UTF-8
members_utf8 : (after_value : Bool) (pairs : List Pair) → AreMembers pairs →
    IsUtf8 (print_from after_value (rest_tokens pairs))
unfolding print_from
members_utf8 false [] are = IsUtf8-are_ascii (125 ∷ []) refl
members_utf8 true [] are = IsUtf8-are_ascii (125 ∷ []) refl
members_utf8 after_value ((name, value) ∷ pairs) are =
    let both : (scalars name && scalars value) ≡ true = rw (scalars-append name value) at are.0 in
    let n : IsUtf8 (encode_utf8_all name) = (name, (and_left (scalars name) (scalars value) both, refl)) in
    let v : IsUtf8 (encode_utf8_all value) = (value, (and_right (scalars name) (scalars value) both, refl)) in
    IsUtf8-append _ _ (IsUtf8-separator after_value (key (encode_utf8_all name)))
    (IsUtf8-append _ _ (IsUtf8-key (encode_utf8_all name) n)
    (IsUtf8-append _ _ (IsUtf8-quoted (encode_utf8_all value) v) (members_utf8 true pairs are.2)))

object_utf8 : (pairs : List Pair) → AreMembers pairs → IsUtf8 (json_bytes pairs)
unfolding print_from
object_utf8 pairs are =
    IsUtf8-append (123 ∷ print_from false (rest_tokens pairs)) (line_feed ∷ [])
    (IsUtf8-append (123 ∷ []) (print_from false (rest_tokens pairs)) (IsUtf8-are_ascii (123 ∷ []) refl)
    (members_utf8 false pairs are))
    (IsUtf8-are_ascii (line_feed ∷ []) refl)

-- the bytes are read as the pairs
pub bytes_read : (pairs : List Pair) → AreMembers pairs → json_reads_bytes (json_bytes pairs) ≡ Some pairs
bytes_read pairs are =
    rw (is_utf8-from_IsUtf8 (json_bytes pairs) (object_utf8 pairs are))
    (ap object_pairs (tokens_read pairs) ∙ members_read pairs are)
