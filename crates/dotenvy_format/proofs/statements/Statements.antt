-- Each statement is parsed as its key and what is assigned to it.
use Rattle.std.proofs.Common.{◌≡◌, ℕ, true, false, not, cond, List, [], ◌∷◌, ◌++◌, Ok, Err, refl, ◌∙◌}
use Rattle.std.proofs.Common.{arith, inl, inr, ap}
use Rattle.std.specs.Prelude.{bytes_eq}
use Rattle.std.specs.Char.{is_whitespace}
use Rattle.std.specs.Str.{skip_leading_whitespace}
use Rattle.std.proofs.lemmas.Bool.Decides.{nat_tests}
use Rattle.std.proofs.lemmas.Bool.{and_parts}
use Rattle.dotenvy_format.specs.Characters.{begins_key, continues_key, equals_sign, begins_passing, begins_with}
use Rattle.dotenvy_format.specs.Statement.{IsStatement, IsPrefix, is_white_space, begins_with_white_space}
use Rattle.dotenvy_format.specs.Keys.{is_key}
use Rattle.dotenvy_format.specs.inside.ParseStatement.{export, after_passing, split_key}
use Rattle.dotenvy_format.specs.inside.ParseStatement.{Parsed, after_key, after_prefix, after_first_key}
use Rattle.dotenvy_format.specs.inside.ParseStatement.{trimmed_statement, parse}
use Rattle.dotenvy_format.proofs.KeyCharacters.{key_continues}
use Rattle.dotenvy_format.proofs.statements.StatementParts.{run_is, span_splits}
use Rattle.dotenvy_format.proofs.writing.ReadBack.{begins_key_visible}

-- a text is a key, white space, if any, and what is left, which goes on with neither
pub record IsCut (text key left : List ℕ) : Type 0 where
  pub gap : List ℕ
  pub is_key : is_key key ≡ true
  pub white : is_white_space gap ≡ true
  pub spelled : text ≡ key ++ (gap ++ left)
  pub ends : not (begins_passing continues_key (gap ++ left)) ≡ true
  pub visible : not (begins_with_white_space left) ≡ true

-- white space is no character of a key
white_no_key : (c : ℕ) → is_whitespace c ≡ true → continues_key c ≡ false
white_no_key c h = grind (arith, nat_tests, h)

-- to skip white space is to take what follows its longest run
pub skip_is : (cs : List ℕ) → skip_leading_whitespace cs ≡ after_passing is_whitespace cs
skip_is [] = refl
skip_is (c ∷ cs) = rw (skip_is cs)

-- white space in front of a text that begins with none is skipped
pub skip_white : (ws cs : List ℕ) → is_white_space ws ≡ true → not (begins_with_white_space cs) ≡ true →
    skip_leading_whitespace (ws ++ cs) ≡ cs
skip_white ws cs h visible = rw (skip_is (ws ++ cs)) (run_is is_whitespace ws cs h visible).1

-- a text that begins with a key begins one
key_begins : (key more : List ℕ) → is_key key ≡ true → begins_passing begins_key (key ++ more) ≡ true
key_begins key more h = grind arith

-- a text that is cut behind a key begins one
cut_begins : {text key left : List ℕ} → IsCut text key left → begins_passing begins_key text ≡ true
cut_begins {key = key} {left = left} cut = rw cut.spelled (key_begins key (cut.gap ++ left) cut.is_key)

-- a text that begins a key does not begin with white space
key_visible : (text : List ℕ) → begins_passing begins_key text ≡ true → not (begins_with_white_space text) ≡ true
key_visible text h = grind (arith, begins_key_visible)

-- white space ends a key, or else what is left does
white_ends : (gap left : List ℕ) → is_white_space gap ≡ true → not (begins_passing continues_key left) ≡ true →
    not (begins_passing continues_key (gap ++ left)) ≡ true
white_ends [] left h ends = ends
white_ends (w ∷ gap) left h ends = rw (white_no_key w (and_parts _ _ h).0)

-- a text that is cut so is split into the key and what is left
pub cut_splits : {text key left : List ℕ} → IsCut text key left → split_key text ≡ Ok (key, left)
cut_splits {text} {key} {left} cut =
    rw (← skip_white cut.gap left cut.white cut.visible)
    (span_splits (cut_begins cut)
    (record { spelled = cut.spelled; pass = key_continues key cut.is_key; longest = cut.ends }))

-- a key, white space, if any, and `=` are cut there
pub equals_cut : (key before more : List ℕ) → is_key key ≡ true → is_white_space before ≡ true →
    IsCut (key ++ (before ++ equals_sign ∷ more)) key (equals_sign ∷ more)
equals_cut key before more is white = record {
  gap = before;
  is_key = is;
  white = white;
  spelled = refl;
  ends = white_ends before (equals_sign ∷ more) white refl;
  visible = refl;
}

-- after a first word and what is no `=`, a key may come if the word is `export`
pub no_equals_first : (key text : List ℕ) → begins_with equals_sign text ≡ false →
    after_first_key key text ≡ cond (bytes_eq key export) (after_prefix text) (Err text)
no_equals_first key text h = grind arith

-- what begins a key does not begin with `=`
key_no_equals : (text : List ℕ) → begins_passing begins_key text ≡ true → begins_with equals_sign text ≡ false
key_no_equals text h = grind (arith, nat_tests, h)

-- how parsing goes on behind a key: it may itself be a prefix where none was before it
abbrev pub after_word : {prefix : List ℕ} → IsPrefix prefix → List ℕ → List ℕ → Parsed
after_word (inl none) = after_first_key
after_word (inr export_is) = after_key

-- behind a key, what follows `=` is assigned to it
pub after_equals : {prefix : List ℕ} (is : IsPrefix prefix) (key cs : List ℕ) →
    after_word is key (equals_sign ∷ cs) ≡ Ok (key, skip_leading_whitespace cs)
after_equals (inl none) key cs = refl
after_equals (inr export_is) key cs = refl

-- behind a text that is cut so, parsing goes on by what its first word is
first_splits : {text key left : List ℕ} → IsCut text key left → trimmed_statement text ≡ after_first_key key left
first_splits cut = rw (cut_splits cut)

-- white space, a prefix or none, and a key are passed by, and parsing goes on behind them
pub parse_cut : {text key left : List ℕ} (indent prefix : List ℕ) → is_white_space indent ≡ true →
    (is : IsPrefix prefix) → IsCut text key left → parse (indent ++ (prefix ++ text)) ≡ after_word is key left
parse_cut {text} {key} indent prefix white (inl none) cut =
    rw (none, skip_white indent text white (key_visible text (cut_begins cut)), first_splits cut)
parse_cut {text} {key} indent prefix white (inr (first, gap, export_is, gap_white)) cut =
    let begins = cut_begins cut in
    let word : IsCut (export ++ ((first ∷ gap) ++ text)) export text =
    record {
      gap = first ∷ gap;
      is_key = refl;
      white = gap_white;
      spelled = refl;
      ends = rw (white_no_key first (and_parts _ _ gap_white).0);
      visible = key_visible text begins;
    } in
    rw (export_is, skip_white indent (export ++ ((first ∷ gap) ++ text)) white refl)
    (first_splits word ∙ rw (no_equals_first export text (key_no_equals text begins), cut_splits cut))

-- a statement is parsed as its key and what is assigned
pub statement-parses : {line key rest : List ℕ} → IsStatement line key rest → parse line ≡ Ok (key, rest)
statement-parses {line} {key} {rest} is =
    let white = and_parts _ _ is.white_space in
    let both = and_parts _ _ white.0 in
    let cut = equals_cut key is.before (is.after ++ rest) is.is_key both.1 in
    rw (
      is.spelled,
      parse_cut is.indent is.prefix both.0 is.is_prefix cut,
      after_equals is.is_prefix key (is.after ++ rest),
      skip_white is.after rest white.1 is.trimmed,
    )

-- a line is a statement of one key and of one assigned text alone
pub one_statement : (line key rest key' rest' : List ℕ) → IsStatement line key rest → IsStatement line key' rest' →
    (key ≡ key') × (rest ≡ rest')
one_statement line key rest key' rest' a b =
    let parses = statement-parses a in
    let same : ◌≡◌ {A = List ℕ × List ℕ} (key, rest) (key', rest') = cc (statement-parses b) in
    (ap (λ p. p.0) same, ap (λ p. p.1) same)
