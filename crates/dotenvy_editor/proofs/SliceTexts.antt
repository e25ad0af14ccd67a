-- A slice that is a text, by its characters.
use Rattle.std.proofs.Common.{◌≡◌, ◌≢◌, ℕ, Bool, true, false, ◌||◌, not, List, [], ◌∷◌, ◌++◌, map, refl, sym, ◌∙◌, ap}
use Rattle.std.proofs.Common.{Option, Some, None, append_assoc, cond, inl, inr, arith}
use Rattle.std.specs.Prelude.{◌==◌, IsUtf8, encode_utf8_all}
use Rattle.std.specs.Char.{is_whitespace}
use Rattle.std.specs.List.{concat, list_all}
use Rattle.std.specs.Str.{chars, is_utf8}
use Rattle.std.proofs.Math.Utf8.{scalar, scalars}
use Rattle.std.proofs.lemmas.Bool.{and_parts}
use Rattle.std.proofs.lemmas.Bool.Decides.{nat_tests}
use Rattle.std.proofs.lemmas.List.{take_all}
use Rattle.std.proofs.lemmas.List.Folds.{list_all-append}
use Rattle.std.proofs.lemmas.Str.{IsUtf8-from_is_utf8, encodes-append, encodes-chars, scalars-chars}
use Rattle.dotenvy_format.specs.Characters.{begins_key, begins_passing, carriage_return, equals_sign, line_feed}
use Rattle.dotenvy_format.specs.Characters.{hash}
use Rattle.dotenvy_format.specs.Keys.{is_key}
use Rattle.dotenvy_format.specs.PhysicalLines.{line_text, line_texts, physical_lines}
use Rattle.dotenvy_format.specs.LogicalLine.{Ending, line_end, escaped_line_end, comment, input_end}
use Rattle.dotenvy_format.specs.LogicalLine.{HasText, IsSkipped, IsWhole, ending_text}
use Rattle.dotenvy_format.specs.LogicalLine.{joined_text, kept_text, with_text_before, without_carriage_return}
use Rattle.dotenvy_format.specs.Statement.{IsPrefix, IsStatement, begins_with_white_space, is_white_space}
use Rattle.dotenvy_format.specs.Tokens.{tokens_text}
use Rattle.dotenvy_format.proofs.lines.Cuts.{concat-lines, joined-texts, line_texts-encodes}
use Rattle.dotenvy_format.proofs.writing.ReadBack.{begins_key_visible}
use Rattle.dotenvy_editor.specs.Slices.{HasLine, IsNextSlice, line_count}
use Rattle.dotenvy_editor.proofs.SlicesAlone.{alone_is, alone_next, alone_of, texts_count, whole_moves}

-- where all of some characters pass a test, the first does, and so do the others
pub all_first : (passes : ℕ → Bool) (c : ℕ) (text : List ℕ) → list_all passes (c ∷ text) ≡ true →
    (passes c ≡ true) × (list_all passes text ≡ true)
all_first passes c text h = and_parts (passes c) (list_all passes text) h

-- the bytes are one logical line with this text alone, by their characters
pub record IsTextAlone (bytes kept : List ℕ) : Type 0 where
  pub text : List ℕ
  pub spells : bytes ≡ encode_utf8_all text
  pub are_scalars : scalars text ≡ true
  pub shown : ¬ (IsSkipped (map Some (physical_lines text)))
  pub whole : IsWhole text kept (Unit {0})

-- lines that join to a text spell it
joined_spells : (xss : List (List ℕ)) (text : List ℕ) → joined_text (map line_text xss) ≡ Some text →
    (concat xss ≡ encode_utf8_all text) × (scalars text ≡ true)
joined_spells [] text e = let none : [] ≡ text = let k : Some [] ≡ Some text = e in cc in rw (← none) (refl, refl)
joined_spells (xs ∷ xss) text e =
    (elim (is_utf8 xs) as (λ b.
    is_utf8 xs ≡ b → joined_text (cond b (Some (chars xs)) None ∷ map line_text xss) ≡ Some text →
    (xs ++ concat xss ≡ encode_utf8_all text) × (scalars text ≡ true)) [
      | true ↦ λ u f. at (IsUtf8-from_is_utf8 xs u) (joined_text (map line_text xss)) f (joined_spells xss)
      | false ↦ λ u f. cc
    ]) refl e
  where
    at : IsUtf8 xs → (j : Option (List ℕ)) → with_text_before (chars xs) j ≡ Some text →
        ((rest : List ℕ) → j ≡ Some rest → (concat xss ≡ encode_utf8_all rest) × (scalars rest ≡ true)) →
        (xs ++ concat xss ≡ encode_utf8_all text) × (scalars text ≡ true)
    at u None f rest = cc
    at u (Some t) f rest =
        let r = rest t refl in
        let is : chars xs ++ t ≡ text = cc in
        rw (← is, encodes-append, encodes-chars xs u, r.0, list_all-append scalar (chars xs) t, scalars-chars xs u, r.1)
        (refl, refl)

-- a slice that is a text alone is it by its characters
pub text_alone : (bytes kept : List ℕ) → IsNextSlice bytes (HasText kept) [] → IsTextAlone bytes kept
text_alone bytes kept is =
    let next = alone_next bytes (HasText kept) is in
    let text = next.1 in
    let count = texts_count bytes in
    let joins : joined_text (line_texts bytes) ≡ Some text.text =
    rw (take_all (line_count bytes) (line_texts bytes) (omega arith)) at text.joins in
    let spelled = joined_spells (physical_lines bytes) text.text joins in
    let spells : bytes ≡ encode_utf8_all text.text = sym (concat-lines bytes) ∙ spelled.0 in
    let lines : line_texts bytes ≡ map Some (physical_lines text.text) =
    ap line_texts spells ∙ line_texts-encodes text.text spelled.1 in
    record {
      text = text.text;
      spells = spells;
      are_scalars = spelled.1;
      shown = rw lines at next.0;
      whole = whole_moves (λ last. tt) text.whole;
    }

-- some bytes that are a text by their characters are a slice that is it alone
pub alone_text : (bytes kept : List ℕ) → bytes ≢ [] → IsTextAlone bytes kept → IsNextSlice bytes (HasText kept) []
alone_text bytes kept some t =
    let spells = t.spells in
    let lines : line_texts bytes ≡ map Some (physical_lines t.text) =
    ap line_texts spells ∙ line_texts-encodes t.text t.are_scalars in
    let count = texts_count bytes in
    let joins : joined_text (line_texts bytes) ≡ Some t.text =
    rw (lines, joined-texts (physical_lines t.text), concat-lines t.text) refl in
    alone_is bytes (HasText kept) some (
      rw lines t.shown,
      record {
        text = t.text;
        within = omega arith;
        joins = rw (take_all (line_count bytes) (line_texts bytes) (omega arith)) joins;
        whole = whole_moves (λ last. sym count) t.whole;
      },
    )

-- a text without a carriage return at its end is a front of it
pub return_front : (text : List ℕ) → (more : List ℕ) × (text ≡ without_carriage_return text ++ more)
return_front [] = ([], refl)
return_front (c ∷ []) =
    elim (c == carriage_return) as (λ b.
    (more : List ℕ) × (c ∷ [] ≡ cond b [] (c ∷ []) ++ more)) [ true ↦ (c ∷ [], refl) | false ↦ ([], refl) ]
return_front (c ∷ d ∷ text) = let rest = return_front (d ∷ text) in (rest.0, ap (◌∷◌ c) rest.1)

-- what is kept of a whole logical line is a front of it
pub kept_front : {text kept : List ℕ} {last : Type 0} → IsWhole text kept last →
    (more : List ℕ) × (text ≡ kept ++ more)
kept_front {text} {kept} w = at w.ending w.cut w.spelled
  where
    at : (ending : Ending) → kept ≡ kept_text (tokens_text w.tokens) ending →
        text ≡ tokens_text w.tokens ++ ending_text ending → (more : List ℕ) × (text ≡ kept ++ more)
    at line_end cut spelled =
        let front = return_front (tokens_text w.tokens) in
        (front.0 ++ line_feed ∷ [], rw (spelled, cut, ← append_assoc, ← front.1) refl)
    at escaped_line_end cut spelled = (line_feed ∷ [], rw (spelled, cut, append_assoc) refl)
    at (comment b words) cut spelled = (hash ∷ words, rw (spelled, cut, append_assoc) refl)
    at input_end cut spelled = ([], rw (spelled, cut) refl)

-- a logical line with a text is it alone, by its characters
line_alone : (bytes text : List ℕ) → HasLine bytes text → IsTextAlone bytes text
line_alone bytes text (later, next) = text_alone bytes text (alone_of bytes later (HasText text) next)

-- it has the bytes of its text, and of what is cut off after it
pub line_bytes : (bytes text : List ℕ) → HasLine bytes text →
    (cut : List ℕ) × (bytes ≡ encode_utf8_all (text ++ cut))
line_bytes bytes text line =
    let alone = line_alone bytes text line in
    let (cut, is) = kept_front alone.whole in (cut, alone.spells ∙ ap encode_utf8_all is)

-- it is UTF-8
pub line_utf8 : (bytes text : List ℕ) → HasLine bytes text → IsUtf8 bytes
line_utf8 bytes text line =
    let alone = line_alone bytes text line in (alone.text, (alone.are_scalars, sym alone.spells))

-- a text that begins with a key begins one
pub key_begins : (key more : List ℕ) → is_key key ≡ true → begins_passing begins_key (key ++ more) ≡ true
key_begins key more h = grind arith

-- a text that begins a key does not begin with white space
pub key_visible : (text : List ℕ) → begins_passing begins_key text ≡ true → not (begins_with_white_space text) ≡ true
key_visible text h = grind (arith, begins_key_visible)

-- the text begins with white space, or with what may begin a key
abbrev pub BeginsWord : List ℕ → Type 0
BeginsWord text = (c : ℕ) × (rest : List ℕ) × (text ≡ c ∷ rest) × ((is_whitespace c || begins_key c) ≡ true)

-- a text that may begin a key begins so
key_word : (text : List ℕ) → begins_passing begins_key text ≡ true → BeginsWord text
key_word [] h = cc
key_word (c ∷ text) h = (c, text, refl, grind (arith, nat_tests))

-- a statement begins so
pub statement_word : (line key assigned : List ℕ) → IsStatement line key assigned → BeginsWord line
statement_word line key assigned is =
    let white = and_parts _ _ is.white_space in
    let both = and_parts _ _ white.0 in
    rw is.spelled (at is.indent both.0 is.prefix is.is_prefix (is.before ++ equals_sign ∷ (is.after ++ assigned)))
  where
    at : (indent : List ℕ) → is_white_space indent ≡ true → (prefix : List ℕ) → IsPrefix prefix → (more : List ℕ) →
        BeginsWord (indent ++ (prefix ++ (key ++ more)))
    at (c ∷ indent) white prefix is_prefix more =
        let first = all_first is_whitespace c indent white in
        (c, indent ++ (prefix ++ (key ++ more)), refl, rw first.0 refl)
    at [] white prefix (inl none) more = rw none (key_word (key ++ more) (key_begins key more is.is_key))
    at [] white prefix (inr (first, gap, exports, gap_white)) more =
        rw exports (101, (120 ∷ 112 ∷ 111 ∷ 114 ∷ 116 ∷ first ∷ gap) ++ (key ++ more), refl, refl)
