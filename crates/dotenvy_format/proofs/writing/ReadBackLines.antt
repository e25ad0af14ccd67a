-- Written pairs as logical lines and entries.
use Rattle.dotenvy_format.proofs.lines.Splitting.{not_returned}
use Rattle.std.proofs.Common.{◌≡◌, ℕ, true, false, List, [], ◌∷◌, ◌++◌, map}
use Rattle.std.proofs.Common.{Option, Some, Ok, refl, sym, arith, append_assoc, length}
use Rattle.std.proofs.Common.{length-append}
use Rattle.std.specs.Prelude.{IsTrue, if◌then◌else◌, ◌==◌, ◌≢◌, encode_utf8_all}
use Rattle.std.specs.List.{flat_map, list_all}
use Rattle.std.proofs.lemmas.List.{append-nil, map-append}
use Rattle.std.proofs.lemmas.Bool.Decides.{nat_tests}
use Rattle.std.proofs.Math.Seq.{take-append_seam, drop-append_seam}
use Rattle.std.proofs.Math.Utf8.{scalars}
use Rattle.dotenvy_format.specs.declared.dialect.Dialect.{Dialect}
use Rattle.dotenvy_format.specs.Characters.{double_quote, equals_sign, line_feed}
use Rattle.dotenvy_format.specs.Characters.{continues_key}
use Rattle.dotenvy_format.specs.PhysicalLines.{physical_lines}
use Rattle.dotenvy_format.specs.Tokens.{QuotedCharacter, one, pair, Token, one_character, quoted}
use Rattle.dotenvy_format.specs.Tokens.{tokens_text, quoted_text, is_quoted}
use Rattle.dotenvy_format.specs.Tokens.{AreTokens}
use Rattle.dotenvy_format.specs.LogicalLine.{line_end, IsWhole}
use Rattle.dotenvy_format.specs.LogicalLine.{IsSkipped, IsNext, Logical, HasText}
use Rattle.dotenvy_format.specs.Keys.{is_key}
use Rattle.dotenvy_format.specs.Outcome.{Pair}
use Rattle.dotenvy_format.specs.Entries.{Entry, Declares, AreLogicalLines, GiveAll, HasEntries}
use Rattle.dotenvy_format.specs.Items.{LookUp, no_values, items, items_from, or_else, with_value}
use Rattle.dotenvy_format.specs.Written.{needs_backslash, written_character, written_pair, written_text}
use Rattle.dotenvy_format.proofs.lines.Cuts.{lines_some, lines-append, concat-lines}
use Rattle.dotenvy_format.proofs.lines.Cuts.{joined-texts, line_texts-encodes}
use Rattle.dotenvy_format.proofs.writing.ReadBack.{begins_key_visible, begins_key_no_hash}
use Rattle.dotenvy_format.proofs.writing.ReadBack.{character_pieces, meaning-characters}
use Rattle.dotenvy_format.proofs.writing.ReadBack.{quoted_text_of, written_says}
use Rattle.dotenvy_format.proofs.KeyCharacters.{key_continues}

-- a character as it is written between double quotes: after a backslash where it needs one, or alone
abbrev quoted_of : ℕ → QuotedCharacter
quoted_of c = if needs_backslash c then pair c else one c

-- the tokens of a written pair: each character of the key, `=`, and the written value in double quotes
abbrev pair_tokens : List ℕ → List ℕ → List Token
pair_tokens key text =
    map one_character key ++ one_character equals_sign ∷ quoted double_quote (map quoted_of text) ∷ []

-- the tokens of a key's characters may be before other tokens that may be in a row
are_plain : (key : List ℕ) (ts : List Token) (after : List ℕ) → list_all continues_key key ≡ true →
    AreTokens ts after → AreTokens (map one_character key ++ ts) after
are_plain [] ts after h are = are
are_plain (c ∷ key) ts after h are =
    grind (arith, nat_tests, are_plain key ts after)

-- the characters of a text, each as it is written, may be between double quotes
are_quoted : (text : List ℕ) → list_all (is_quoted double_quote) (map quoted_of text) ≡ true
are_quoted [] = refl
are_quoted (c ∷ text) = rw (are_quoted text) (grind (arith, nat_tests))

-- the characters of a text, each as it is written, spell the text's written form
texts_of_quoted : (text : List ℕ) → flat_map quoted_text (map quoted_of text) ≡ flat_map written_character text
texts_of_quoted [] = refl
texts_of_quoted (c ∷ text) = grind (arith, texts_of_quoted text)

-- the characters of a key as tokens, before others, spell the key and the text of the others
text_of_plain : (key : List ℕ) (ts : List Token) → tokens_text (map one_character key ++ ts) ≡ key ++ tokens_text ts
text_of_plain [] ts = refl
text_of_plain (c ∷ key) ts = rw (text_of_plain key ts)

-- a written pair without its line feed
abbrev pair_line : List ℕ → List ℕ → List ℕ
pair_line key text = key ++ equals_sign ∷ quoted_text_of text

-- the tokens of a written pair spell it without its line feed
pair_text : (key text : List ℕ) → tokens_text (pair_tokens key text) ≡ pair_line key text
pair_text key text =
    let key_text = text_of_plain key (one_character equals_sign ∷ quoted double_quote (map quoted_of text) ∷ []) in
    let inner = texts_of_quoted text in
    cc (append-nil (flat_map quoted_text (map quoted_of text) ++ double_quote ∷ []))

-- with a key's characters in its key, a written pair is a whole logical line that keeps all but the line feed
pair_is_whole : (key text : List ℕ) (last : Type 0) → list_all continues_key key ≡ true →
    IsWhole (written_pair (key, text)) (pair_line key text) last
pair_is_whole key text last h = record {
  tokens = pair_tokens key text;
  ending = line_end;
  are_tokens =
      are_plain key (one_character equals_sign ∷ quoted double_quote (map quoted_of text) ∷ []) (line_feed ∷ []) h
      (refl, ((refl, are_quoted text), tt));
  is_ending = tt;
  spelled = rw (pair_text key text) (simp append_assoc);
  cut =
      rw (pair_text key text) (sym (simp append_assoc at
      (not_returned (key ++ (equals_sign ∷ double_quote ∷ flat_map written_character text)) double_quote refl)));
}

-- the physical lines of a written pair
abbrev pair_lines : List ℕ → List ℕ → List (Option (List ℕ))
pair_lines key text = map Some (physical_lines (written_pair (key, text)))

-- the lines of a written pair with a key begin with no comment line, whatever lines follow
not_skipped : (key text : List ℕ) (lines : List (Option (List ℕ))) → IsTrue (is_key key) →
    ¬ (IsSkipped (pair_lines key text ++ lines))
not_skipped [] text lines h skipped = cc
not_skipped (c ∷ key) text lines h skipped =
    let goes_on : (c == 10) ≡ false = grind (arith, nat_tests) in
    let begins = rw goes_on at skipped in grind (arith, begins_key_visible c, begins_key_no_hash c)

-- the lines of a written pair with a key are the next logical line, whatever lines follow
pair_is_next : (key text : List ℕ) (lines : List (Option (List ℕ))) → IsTrue (is_key key) →
    IsNext (pair_lines key text ++ lines) (length (pair_lines key text)) (HasText (pair_line key text))
pair_is_next key text lines h = (
  not_skipped key text lines h,
  record {
    text = written_pair (key, text);
    within = omega (arith, length-append (pair_lines key text) lines);
    joins = rw (take-append_seam (pair_lines key text) lines, joined-texts, concat-lines);
    whole =
        pair_is_whole key text (length (pair_lines key text) ≡ length (pair_lines key text ++ lines))
        (key_continues key h);
  },
)

-- each first part is a key
abbrev pub AreKeys : List (List ℕ × List ℕ) → Type 0
AreKeys [] = Unit {0}
AreKeys ((key, text) ∷ pairs) = IsTrue (is_key key) × AreKeys pairs

-- the logical line of a written pair
abbrev pub pair_line_of : List ℕ × List ℕ → Logical
pair_line_of (key, text) = HasText (pair_line key text)

-- the physical lines of written pairs are those of the first pair, then those of the others
written_lines : (key text : List ℕ) (pairs : List (List ℕ × List ℕ)) →
    map Some (physical_lines (written_text ((key, text) ∷ pairs)))
    ≡ pair_lines key text ++ map Some (physical_lines (written_text pairs))
written_lines key text pairs =
    let line : written_pair (key, text) ≡ pair_line key text ++ line_feed ∷ [] = simp append_assoc in
    rw (line, lines-append) (simp map-append)

-- a written pair with a key has a physical line, whatever lines follow
not_empty : (key text : List ℕ) (lines : List (Option (List ℕ))) → IsTrue (is_key key) →
    pair_lines key text ++ lines ≢ []
not_empty [] text lines h e = cc
not_empty (c ∷ key) text lines h e = grind (arith, lines_some c (written_pair (key, text)))

-- the physical lines of written pairs with keys make one logical line for each pair
are_logical : (pairs : List (List ℕ × List ℕ)) → AreKeys pairs →
    AreLogicalLines (map Some (physical_lines (written_text pairs))) (map pair_line_of pairs)
are_logical [] h = refl
are_logical ((key, text) ∷ pairs) h =
    rw (written_lines key text pairs) (
      not_empty key text (map Some (physical_lines (written_text pairs))) h.0,
      length (pair_lines key text),
      pair_is_next key text (map Some (physical_lines (written_text pairs))) h.0,
      rw (drop-append_seam (pair_lines key text) (map Some (physical_lines (written_text pairs))))
          (are_logical pairs h.1),
    )

-- the entry of a written pair: it declares the key, with each character of the value as a text
abbrev pub pair_entry : List ℕ × List ℕ → Entry
pair_entry (key, text) = Declares key (character_pieces text)

-- the logical lines of written pairs with keys give the pairs' entries
give : (dialect : Dialect) (pairs : List (List ℕ × List ℕ)) → AreKeys pairs →
    GiveAll dialect (map pair_line_of pairs) (map pair_entry pairs)
give dialect [] h = refl
give dialect ((key, text) ∷ pairs) h = (
  Declares key (character_pieces text) ∷ [],
  map pair_entry pairs,
  (Pair key (character_pieces text), written_says dialect key text h.0, refl),
  give dialect pairs h.1,
  refl,
)

-- the bytes of written pairs with keys have the pairs' entries
pub written_entries : (dialect : Dialect) (pairs : List (List ℕ × List ℕ)) → AreKeys pairs →
    scalars (written_text pairs) ≡ true →
    HasEntries dialect (encode_utf8_all (written_text pairs)) (map pair_entry pairs)
written_entries dialect pairs h s = record {
  lines = map pair_line_of pairs;
  are_lines = rw (line_texts-encodes (written_text pairs) s) (are_logical pairs h);
  give = give dialect pairs h;
}

-- under each environment the items of the pairs' entries are the pairs
written_items : (env earlier : LookUp) (pairs : List (List ℕ × List ℕ)) →
    items_from env earlier (map pair_entry pairs) ≡ map Ok pairs
written_items env earlier [] = refl
written_items env earlier ((key, text) ∷ pairs) =
    rw (meaning-characters (or_else env earlier) text, written_items env (with_value earlier key text) pairs)

-- written pairs are read back as themselves
pub written_read_back : (dialect : Dialect) (env : LookUp) (pairs : List (List ℕ × List ℕ)) → AreKeys pairs →
    scalars (written_text pairs) ≡ true →
    (entries : List Entry)
    × HasEntries dialect (encode_utf8_all (written_text pairs)) entries
    × (items env entries ≡ map Ok pairs)
written_read_back dialect env pairs h s =
    (map pair_entry pairs, written_entries dialect pairs h s, written_items env no_values pairs)
