-- A line that is appended: some form of each value reads back in it.
use Rattle.std.proofs.Common.{◌≡◌, ◌≢◌, ◌∙◌, ℕ, Bool, true, false, not, ◌&&◌, ◌⊎◌, List, [], ◌∷◌, ◌++◌, map, refl}
use Rattle.std.proofs.Common.{sym, ap, arith}
use Rattle.std.proofs.Common.{append_assoc, inl, inr, length, length-append, Some, None}
use Rattle.std.specs.Prelude.{IsTrue, ◌==◌, encode_utf8_all}
use Rattle.std.specs.List.{flat_map, list_all, list_any}
use Rattle.std.specs.Char.{is_whitespace}
use Rattle.std.specs.Str.{drop_trailing_whitespace, chars}
use Rattle.std.proofs.lemmas.Bool.{cases_Bool}
use Rattle.std.proofs.lemmas.Bool.Decides.{nat_tests}
use Rattle.std.proofs.lemmas.List.{append-nil, length-map, take_all}
use Rattle.std.proofs.lemmas.List.Folds.{list_all-append}
use Rattle.std.proofs.Math.Utf8.{scalar, scalars}
use Rattle.dotenvy_format.specs.declared.dialect.Dialect.{Dialect}
use Rattle.dotenvy_format.specs.Characters.{backslash, carriage_return, continues_key}
use Rattle.dotenvy_format.specs.Characters.{equals_sign, is_quote, line_feed, single_quote}
use Rattle.dotenvy_format.specs.Keys.{is_key}
use Rattle.dotenvy_format.specs.LogicalLine.{HasText, IsNext, IsSkipped, IsWhole, line_end, without_carriage_return}
use Rattle.dotenvy_format.specs.Outcome.{Pair, Says, is_nothing}
use Rattle.dotenvy_format.specs.PhysicalLines.{line_texts, physical_lines}
use Rattle.dotenvy_format.specs.Tokens.{AreTokens, Token, one_character, quoted, quoted_text, tokens_text}
use Rattle.dotenvy_format.specs.Written.{needs_backslash}
use Rattle.dotenvy_format.proofs.KeyCharacters.{key_continues}
use Rattle.dotenvy_format.proofs.lines.Cuts.{concat-lines, joined-texts, line_texts-encodes, lines-encodes, lines_some}
use Rattle.dotenvy_format.proofs.lines.Splitting.{not_returned}
use Rattle.dotenvy_format.proofs.writing.ReadBack.{begins_key_no_hash, begins_key_visible}
use Rattle.dotenvy_editor.specs.declared.writing.How.{How}
use Rattle.dotenvy_editor.specs.Edits.{new_spot}
use Rattle.dotenvy_editor.specs.Ends.{IsEnd, ends_in, last_end}
use Rattle.dotenvy_editor.specs.Forms.{candidates, form_lines, has, in_double_quotes, in_single_quotes}
use Rattle.dotenvy_editor.specs.Forms.{is_nil, is_word}
use Rattle.dotenvy_editor.specs.Forms.{on_one_line, plain_forms, where_true}
use Rattle.dotenvy_editor.specs.Lines.{IsWritten, NoneIs, WritesNone}
use Rattle.dotenvy_editor.specs.Portable.{fits_single, portable_forms}
use Rattle.dotenvy_editor.specs.Portable.{single_refusal, value_refusal}
use Rattle.dotenvy_editor.specs.Slices.{line_count}
use Rattle.dotenvy_editor.specs.Assignments.{Spot}
use Rattle.dotenvy_editor.proofs.LineEnds.{gap_of, last_end_is}
use Rattle.dotenvy_editor.proofs.QuotedForms.{IsQuotedForm, in_double, in_one_line, in_single}
use Rattle.dotenvy_editor.proofs.SlicesAlone.{alone_is}
use Rattle.dotenvy_editor.proofs.WhiteSpaces.{new_forms}

-- The end of the line.
-- the end of the last line of a file is one
pub last_is_end : (bytes : List ℕ) → IsEnd (last_end bytes)
last_is_end bytes = at (last_end_is bytes)
  where
    at : (b : Bool) × (last_end bytes ≡ gap_of b) → IsEnd (last_end bytes)
    at (false, e) = inl e
    at (true, e) = inr e

-- an end is tokens that are cut off, and a line feed
record IsEndRow (end : List ℕ) : Type 0 where
  row : List Token
  are_row : AreTokens row (line_feed ∷ [])
  spelled : end ≡ tokens_text row ++ line_feed ∷ []
  cut : (xs : List ℕ) (c : ℕ) → (c == carriage_return) ≡ false →
      without_carriage_return (xs ++ c ∷ tokens_text row) ≡ xs ++ c ∷ []
  are_scalars : scalars end ≡ true

-- a carriage return at the end is cut off
returned : (xs : List ℕ) (c : ℕ) → without_carriage_return (xs ++ c ∷ carriage_return ∷ []) ≡ xs ++ c ∷ []
returned [] c = refl
returned (x ∷ []) c = refl
returned (x ∷ y ∷ xs) c = ap (◌∷◌ x) (returned (y ∷ xs) c)

end_row : (end : List ℕ) → IsEnd end → IsEndRow end
end_row end (inl is) = rw is record {
  row = [];
  are_row = tt;
  spelled = refl;
  cut = not_returned;
  are_scalars = refl;
}
end_row end (inr is) = rw is record {
  row = one_character carriage_return ∷ [];
  are_row = (refl, tt);
  spelled = refl;
  cut = λ xs c h. returned xs c;
  are_scalars = refl;
}

-- The line as one logical line.
-- the tokens of a key's characters may be before other tokens that may be in a row
are_plain : (key : List ℕ) (ts : List Token) (after : List ℕ) → list_all continues_key key ≡ true →
    AreTokens ts after → AreTokens (map one_character key ++ ts) after
are_plain [] ts after h are = are
are_plain (c ∷ key) ts after h are = grind (arith, nat_tests, are_plain key ts after)

-- the characters of a key as tokens, before others, spell the key and the text of the others
text_of_plain : (key : List ℕ) (ts : List Token) → tokens_text (map one_character key ++ ts) ≡ key ++ tokens_text ts
text_of_plain [] ts = refl
text_of_plain (c ∷ key) ts = rw (text_of_plain key ts) refl

-- the text of the line, and what is kept of it
abbrev line_of : List ℕ → List ℕ → List ℕ → List ℕ
line_of key form end = (key ++ equals_sign ∷ []) ++ (form ++ end)

abbrev kept_of : List ℕ → List ℕ → List ℕ
kept_of key form = key ++ equals_sign ∷ form

-- a quote is no carriage return, and no white space
quote_stays : (c : ℕ) → is_quote c ≡ true → (c == carriage_return) ≡ false
quote_stays c h = grind (arith, nat_tests)

quote_visible : (c : ℕ) → is_quote c ≡ true → is_whitespace c ≡ false
quote_visible c h = grind (arith, nat_tests)

-- the parts of the line, joined in another order
spell : (key form row : List ℕ) →
    (key ++ equals_sign ∷ []) ++ (form ++ (row ++ line_feed ∷ []))
    ≡ (key ++ equals_sign ∷ (form ++ row)) ++ line_feed ∷ []
spell key form row = simp append_assoc

seam : (key : List ℕ) (quote : ℕ) (inner row : List ℕ) →
    (key ++ (equals_sign ∷ quote ∷ inner)) ++ quote ∷ row
    ≡ key ++ equals_sign ∷ ((quote ∷ (inner ++ quote ∷ [])) ++ row)
seam key quote inner row = simp append_assoc

is_whole : (key value form end : List ℕ) (last : Type 0) → list_all continues_key key ≡ true →
    IsQuotedForm value form → IsEndRow end → IsWhole (line_of key form end) (kept_of key form) last
is_whole key value form end last h q e =
    let inner = flat_map quoted_text q.inner in
    let quoted_form = q.quote ∷ (inner ++ q.quote ∷ []) in
    let row = tokens_text e.row in
    let ts = one_character equals_sign ∷ quoted q.quote q.inner ∷ e.row in record {
      tokens = map one_character key ++ ts;
      ending = line_end;
      are_tokens = are_plain key ts (line_feed ∷ []) h (refl, ((q.quotes, q.are_quoted), e.are_row));
      is_ending = tt;
      spelled =
          ap (λ text. (key ++ equals_sign ∷ []) ++ (text ++ end)) q.spelled
          ∙ ap (λ text. (key ++ equals_sign ∷ []) ++ (quoted_form ++ text)) e.spelled
          ∙ spell key quoted_form row ∙ ap (λ text. text ++ line_feed ∷ []) (sym (text_of_plain key ts));
      cut =
          ap (λ text. key ++ equals_sign ∷ text) q.spelled
          ∙ sym (rw (append-nil quoted_form) at (seam key q.quote inner []))
          ∙ sym (e.cut (key ++ (equals_sign ∷ q.quote ∷ inner)) q.quote (quote_stays q.quote q.quotes))
          ∙ ap without_carriage_return (seam key q.quote inner row ∙ sym (text_of_plain key ts));
    }

-- lines that begin with a key begin with no comment line
not_skipped : (key more : List ℕ) → IsTrue (is_key key) → ¬ (IsSkipped (map Some (physical_lines (key ++ more))))
not_skipped [] more h skipped = cc
not_skipped (c ∷ key) more h skipped =
    let goes_on : (c == 10) ≡ false = grind (arith, nat_tests) in
    let begins = rw goes_on at skipped in grind (arith, begins_key_visible c, begins_key_no_hash c)

-- later characters of a key are Unicode scalar values
key_scalars : (cs : List ℕ) → list_all continues_key cs ≡ true → scalars cs ≡ true
key_scalars [] h = refl
key_scalars (c ∷ cs) h = grind (arith, nat_tests, key_scalars cs)

-- a text that begins with a character has bytes
some_bytes : (text : List ℕ) → text ≢ [] → scalars text ≡ true → encode_utf8_all text ≢ []
some_bytes text some h none =
    let e : map Some (physical_lines text) ≡ [] = sym (line_texts-encodes text h) ∙ ap line_texts none in
    at text some e
  where
    behind : (lines : List (List ℕ)) → lines ≢ [] → map Some lines ≡ [] → ⊥
    behind [] some e = some refl
    behind (l ∷ lines) some e = cc

    at : (text : List ℕ) → text ≢ [] → map Some (physical_lines text) ≡ [] → ⊥
    at [] some e = some refl
    at (c ∷ cs) some e = behind (physical_lines (c ∷ cs)) (lines_some c cs) e

-- the line of a text is all of its physical lines
is_next : (text kept : List ℕ) → scalars text ≡ true → ¬ (IsSkipped (map Some (physical_lines text))) →
    ((last : Type 0) → IsWhole text kept last) → IsNext (line_texts (encode_utf8_all text))
    (line_count (encode_utf8_all text)) (HasText kept)
is_next text kept h shown whole =
    let lines = map Some (physical_lines text) in
    let count : line_count (encode_utf8_all text) ≡ length lines =
    ap length (lines-encodes text) ∙ length-map (physical_lines text) encode_utf8_all
    ∙ sym (length-map (physical_lines text) Some) in
    rw (line_texts-encodes text h, count) (
      shown,
      record {
        text = text;
        within = omega arith;
        joins = rw (take_all (length lines) lines (omega arith), joined-texts, concat-lines) refl;
        whole = whole (length lines ≡ length lines);
      },
    )

-- The line as a statement.
-- a text that ends with a visible character has no white space at its end
untrimmed : (xs : List ℕ) (c : ℕ) → is_whitespace c ≡ false → drop_trailing_whitespace (xs ++ c ∷ []) ≡ xs ++ c ∷ []
untrimmed [] c h = rw h refl
untrimmed (x ∷ xs) c h = rw (untrimmed xs c h) (grind (arith, nat_tests, length-append xs (c ∷ [])))

-- a line that begins with a key is neither empty nor a comment
is_something : (key more : List ℕ) → IsTrue (is_key key) → IsTrue (not (is_nothing (key ++ more)))
is_something key more h = grind (arith, begins_key_visible, begins_key_no_hash)

-- a quote begins neither white space nor a comment
quote_no_hash : (c : ℕ) → is_quote c ≡ true → (c == 35) ≡ false
quote_no_hash c h = grind (arith, nat_tests)

line_says : (dialect : Dialect) (key value form : List ℕ) → IsTrue (is_key key) → (q : IsQuotedForm value form) →
    Says dialect (kept_of key form) (Pair key q.pieces)
line_says dialect key value form h q =
    let line : drop_trailing_whitespace (kept_of key form) ≡ kept_of key form =
    rw q.spelled (simp append_assoc at
    (untrimmed (key ++ (equals_sign ∷ q.quote ∷ flat_map quoted_text q.inner)) q.quote (quote_visible q.quote
    q.quotes))) in
    rw line (
      is_something key (equals_sign ∷ form) h,
      form,
      record {
        indent = [];
        prefix = [];
        before = [];
        after = [];
        white_space = refl;
        is_prefix = inl refl;
        is_key = h;
        trimmed = rw (q.spelled, quote_visible q.quote q.quotes) refl;
        spelled = refl;
      },
      inr (rw (q.spelled, quote_no_hash q.quote q.quotes) refl, q.is_value dialect),
    )

-- the line of a form in quotes reads back
pub reads_back : (dialect : Dialect) (key value form end : List ℕ) → IsTrue (is_key key) → IsQuotedForm value form →
    IsEnd end → IsWritten dialect key value (encode_utf8_all (line_of key form end)) []
reads_back dialect key value form end h q is =
    let text = line_of key form end in
    let joined : text ≡ key ++ (equals_sign ∷ (form ++ end)) =
    append_assoc key (equals_sign ∷ []) (form ++ end) in
    let are : scalars text ≡ true =
    simp (list_all-append scalar, key_scalars key (key_continues key h), q.are_scalars, (end_row end is).are_scalars) in
    let some : text ≢ [] = λ none. filled key (form ++ end) (sym joined ∙ none) in record {
      text = kept_of key form;
      pieces = q.pieces;
      next =
          alone_is (encode_utf8_all text) (HasText (kept_of key form)) (some_bytes text some are)
          (is_next text (kept_of key form) are (rw joined (not_skipped key (equals_sign ∷ (form ++ end)) h))
          (λ last. is_whole key value form end last (key_continues key h) q (end_row end is)));
      says = line_says dialect key value form h q;
      means = q.means;
    }
  where
    filled : (xs ys : List ℕ) → xs ++ equals_sign ∷ ys ≡ [] → ⊥
    filled [] ys e = cc
    filled (x ∷ xs) ys e = cc

-- One of the lines that are tried.
-- the form is one of these
abbrev IsAmong : List ℕ → List (List ℕ) → Type 0
IsAmong form [] = ⊥
IsAmong form (first ∷ others) = (form ≡ first) ⊎ IsAmong form others

among_behind : (form : List ℕ) (some others : List (List ℕ)) → IsAmong form others → IsAmong form (some ++ others)
among_behind form [] others h = h
among_behind form (first ∷ some) others h = inr (among_behind form some others h)

among_before : (form : List ℕ) (some others : List (List ℕ)) → IsAmong form some → IsAmong form (some ++ others)
among_before form [] others h = absurd h
among_before form (first ∷ some) others (inl h) = inl h
among_before form (first ∷ some) others (inr h) = inr (among_before form some others h)

-- what holds of none of two rows of texts holds of none of the second
none_behind : (P : List ℕ → Type 0) (xs ys : List (List ℕ)) → NoneIs P (xs ++ ys) → NoneIs P ys
none_behind P [] ys h = h
none_behind P (x ∷ xs) ys h = none_behind P xs ys h.1

-- where no line that is tried reads back, none with one of the forms does
none_among : (P : List ℕ → Type 0) (spot : Spot) (form : List ℕ) (forms : List (List ℕ)) →
    NoneIs P (candidates spot forms) → IsAmong form forms → P (spot.front ++ (form ++ spot.rest)) → ⊥
none_among P spot form [] none among h = among
none_among P spot form (first ∷ forms) none (inl is) h = none.0 (rw is at h)
none_among P spot form (first ∷ forms) none (inr among) h =
    none_among P spot form forms (none_behind P (form_lines spot first) (candidates spot forms) none) among h

-- a value that has a portable form has one in quotes
record HasQuotedForm (value : List ℕ) (forms : List (List ℕ)) : Type 0 where
  form : List ℕ
  is_quoted : IsQuotedForm value form
  among : IsAmong form forms

plain_quoted : (value : List ℕ) → scalars value ≡ true → HasQuotedForm value (plain_forms value)
plain_quoted value h = record {
  form = in_double_quotes value;
  is_quoted = in_double value h;
  among =
      among_behind (in_double_quotes value) (where_true (is_word value) value) _
      (among_behind (in_double_quotes value) (where_true (not (has single_quote value)) (in_single_quotes value)) _
      (inl refl));
}

-- a value that may be in single quotes has none, and ends in no backslash
single_fits : (value : List ℕ) → single_refusal value ≡ None →
    (has single_quote value ≡ false) × (ends_in backslash value ≡ false)
single_fits value is = grind arith

-- a value that needs a backslash in double quotes may be in single quotes
single_needed : (value : List ℕ) → value_refusal value ≡ None → list_any needs_backslash value ≡ true →
    single_refusal value ≡ None
single_needed value is needs = grind arith

-- the second and the third of three forms that may be there
second : (a b c : Bool) (x y z : List ℕ) → b ≡ true →
    IsAmong y (where_true a x ++ (where_true b y ++ where_true c z))
second a b c x y z h =
    among_behind y (where_true a x) (where_true b y ++ where_true c z)
    (among_before y (where_true b y) (where_true c z) (rw h (inl refl)))

third : (a b c : Bool) (x y z : List ℕ) → c ≡ true →
    IsAmong z (where_true a x ++ (where_true b y ++ where_true c z))
third a b c x y z h =
    among_behind z (where_true a x) (where_true b y ++ where_true c z)
    (among_behind z (where_true b y) (where_true c z) (rw h (inl refl)))

-- without a comment the forms are those that the value may have
bare_forms : (value : List ℕ) →
    portable_forms value []
    ≡ where_true (is_word value && not (is_nil value && false)) value
    ++ (where_true (fits_single (single_refusal value) && true) (in_single_quotes value)
    ++ where_true (not (list_any needs_backslash value) && true) (on_one_line value))
bare_forms value = refl

-- what is so is so beside what holds
with_true : (b : Bool) → b ≡ true → (b && true) ≡ true
with_true b h = rw h refl

portable_quoted : (value : List ℕ) → scalars value ≡ true → value_refusal value ≡ None →
    HasQuotedForm value (portable_forms value [])
portable_quoted value h fits = rw (bare_forms value) elim (cases_Bool (list_any needs_backslash value)) [
  | inl needs ↦
      let single = single_needed value fits needs in
      let parts = single_fits value single in record {
        form = in_single_quotes value;
        is_quoted = in_single value h parts.0 parts.1;
        among =
            second (is_word value && not (is_nil value && false)) (fits_single (single_refusal value) && true)
            (not (list_any needs_backslash value) && true) value (in_single_quotes value) (on_one_line value)
            (with_true (fits_single (single_refusal value)) (ap fits_single single));
      }
  | inr plain ↦ record {
    form = on_one_line value;
    is_quoted = in_one_line value h;
    among =
        third (is_word value && not (is_nil value && false)) (fits_single (single_refusal value) && true)
        (not (list_any needs_backslash value) && true) value (in_single_quotes value) (on_one_line value)
        (with_true (not (list_any needs_backslash value)) (ap not plain));
  }
]

-- a setting of a key can write a line at the end of a file
pub writes_some : (how : How) (key value end : List ℕ) → IsTrue (is_key key) → scalars value ≡ true →
    (how.is_portable ≡ true → value_refusal value ≡ None) → IsEnd end →
    WritesNone how key value (new_spot key end) [] → ⊥
writes_some how key value end h are fits is none = elim (cases_Bool how.is_portable) [
  | inl portable ↦
      let q = portable_quoted value are (fits portable) in
      let forms = rw (portable, new_forms value key end h is) at none in
      none_among Written spot q.form (portable_forms value []) forms q.among
      (reads_back how.dialect key value q.form end h q.is_quoted is)
  | inr own ↦
      let q = plain_quoted value are in
      let among = rw own at none in
      none_among Written spot q.form (plain_forms value) among.1 q.among
      (reads_back how.dialect key value q.form end h q.is_quoted is)
]
  where
    spot : Spot
    spot = new_spot key end

    Written : List ℕ → Type 0
    Written text = IsWritten how.dialect key value (encode_utf8_all text) []

-- an end has one character for each byte
pub end_chars : (end : List ℕ) → IsEnd end → chars end ≡ end
unfolding chars
end_chars end (inl is) = rw is refl
end_chars end (inr is) = rw is refl
