-- A written pair, read as a logical line and as a statement.
use Rattle.std.proofs.Common.{◌≡◌, ℕ, true, false, not, List, [], ◌∷◌, ◌++◌}
use Rattle.std.proofs.Common.{map, refl, sym, arith, append_assoc, inl, inr}
use Rattle.std.specs.Prelude.{IsTrue, if◌then◌else◌, ◌==◌}
use Rattle.std.specs.List.{flat_map}
use Rattle.std.specs.Str.{drop_trailing_whitespace}
use Rattle.std.proofs.lemmas.List.{append-nil}
use Rattle.std.specs.Char.{is_whitespace}
use Rattle.std.proofs.lemmas.Bool.{cond_both}
use Rattle.std.proofs.lemmas.Bool.Decides.{nat_tests}
use Rattle.std.proofs.Common.{length-append}
use Rattle.dotenvy_format.specs.declared.text.Quoting.TheVariants.{DoubleQuoted}
use Rattle.dotenvy_format.specs.declared.dialect.Dialect.{Dialect}
use Rattle.dotenvy_format.specs.Characters.{double_quote, equals_sign, begins_key}
use Rattle.dotenvy_format.specs.Value.{Piece, Text, Part, plain, escape, double}
use Rattle.dotenvy_format.specs.Value.{no_close, parts_text, part_pieces}
use Rattle.dotenvy_format.specs.Value.{IsPart, AreParts, IsValue}
use Rattle.dotenvy_format.specs.Statement.{IsStatement}
use Rattle.dotenvy_format.specs.Keys.{is_key}
use Rattle.dotenvy_format.specs.Outcome.{Pair, Says, is_nothing}
use Rattle.dotenvy_format.specs.Items.{LookUp, meaning}
use Rattle.dotenvy_format.specs.Written.{needs_backslash, written_character}

-- the part that writes a character: its escape where it needs a backslash, else the character itself
abbrev part_of : ℕ → Part
part_of c = if needs_backslash c then escape c else plain c

-- each character of a text as a separate piece
abbrev pub character_pieces : List ℕ → List Piece
character_pieces text = map (λ c. Text (c ∷ [])) text

-- in double quotes a character may stand escaped where it needs a backslash, and as itself where not
is_part_at : (dialect : Dialect) (c : ℕ) (after : List ℕ) → IsPart dialect DoubleQuoted (part_of c) after
is_part_at dialect c after =
    cond_both (needs_backslash c) (escape c) (plain c) (λ part. IsPart dialect DoubleQuoted part after)
    (λ needs. grind (arith, nat_tests, needs)) (λ lacks. rw lacks)

-- the parts that write a text may be in a row in double quotes, whatever follows them
are_parts_of : (dialect : Dialect) (text : List ℕ) (after : List ℕ) →
    AreParts dialect DoubleQuoted (map part_of text) after
are_parts_of dialect [] after = tt
are_parts_of dialect (c ∷ text) after =
    (is_part_at dialect c (parts_text (map part_of text) ++ after), are_parts_of dialect text after)

-- the parts that write a text are spelled as its characters are written
written_parts : (text : List ℕ) → parts_text (map part_of text) ≡ flat_map written_character text
written_parts [] = refl
written_parts (c ∷ text) = grind (arith, written_parts text)

-- the parts that write a text mean its characters, each as a separate piece
pieces_of_parts : (text : List ℕ) → flat_map part_pieces (map part_of text) ≡ character_pieces text
pieces_of_parts [] = refl
pieces_of_parts (c ∷ text) = grind (arith, nat_tests, pieces_of_parts text)

-- the characters of a text, each as a separate piece, mean the text, whatever names stand for
pub meaning-characters : (look_up : LookUp) (text : List ℕ) → meaning look_up (character_pieces text) ≡ text
meaning-characters look_up [] = refl
meaning-characters look_up (c ∷ text) = rw (meaning-characters look_up text)

-- a text as a value is written: its written characters between double quotes
abbrev pub quoted_text_of : List ℕ → List ℕ
quoted_text_of text = double_quote ∷ (flat_map written_character text ++ double_quote ∷ [])

-- a text written between double quotes is a value that means its characters, in either dialect
pub quoted_is_value : (dialect : Dialect) (text : List ℕ) →
    IsValue dialect (quoted_text_of text) (character_pieces text)
quoted_is_value dialect text = record {
  segments = double (map part_of text) ∷ [];
  close = no_close;
  are_segments = (are_parts_of dialect text (double_quote ∷ []), tt);
  is_close = tt;
  spelled = simp (written_parts, append-nil, append_assoc);
  means = sym (simp (append-nil, pieces_of_parts));
}

-- a key, `=` and a text written between double quotes are a statement that assigns it to the key
pub written_is_statement : (key text : List ℕ) → IsTrue (is_key key) →
    IsStatement (key ++ equals_sign ∷ quoted_text_of text) key (quoted_text_of text)
written_is_statement key text h = record {
  indent = [];
  prefix = [];
  before = [];
  after = [];
  white_space = refl;
  is_prefix = inl refl;
  is_key = h;
  trimmed = refl;
  spelled = refl;
}

-- a text that ends with a double quote has no white space at its end
untrimmed : (xs : List ℕ) → drop_trailing_whitespace (xs ++ double_quote ∷ []) ≡ xs ++ double_quote ∷ []
untrimmed [] = refl
untrimmed (c ∷ xs) = rw (untrimmed xs) (grind (arith, nat_tests, length-append xs (double_quote ∷ [])))

-- what begins a key is no white space
pub begins_key_visible : (c : ℕ) → begins_key c ≡ true → is_whitespace c ≡ false
begins_key_visible c h = grind (arith, nat_tests, h)

-- what begins a key is no hash
pub begins_key_no_hash : (c : ℕ) → begins_key c ≡ true → (c == 35) ≡ false
begins_key_no_hash c h = grind (arith, nat_tests, h)

-- a line that begins with a key is neither empty nor a comment
key_is_something : (key more : List ℕ) → IsTrue (is_key key) → IsTrue (not (is_nothing (key ++ more)))
key_is_something key more h = grind (arith, begins_key_visible, begins_key_no_hash)

-- a key, `=` and a text written between double quotes say the pair of the key and the text's characters
pub written_says : (dialect : Dialect) (key text : List ℕ) → IsTrue (is_key key) →
    Says dialect (key ++ equals_sign ∷ quoted_text_of text) (Pair key (character_pieces text))
written_says dialect key text h =
    let line = simp append_assoc at
    (untrimmed (key ++ (equals_sign ∷ double_quote ∷ flat_map written_character text))) in
    rw line (
      key_is_something key (equals_sign ∷ quoted_text_of text) h,
      quoted_text_of text,
      written_is_statement key text h,
      inr (refl, quoted_is_value dialect text),
    )
