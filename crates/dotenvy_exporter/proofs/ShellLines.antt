-- A written line, as a shell reads it.
use Rattle.std.proofs.Common.{◌≡◌, ◌∙◌, ℕ, Bool, true, false, ◌&&◌, ◌||◌, not, List, [], ◌∷◌, ◌++◌}
use Rattle.std.proofs.Common.{refl, sym, ap, arith, append_assoc}
use Rattle.std.proofs.lemmas.Bool.{eqb-true}
use Rattle.std.specs.Prelude.{Some, ◌==◌, if◌then◌else◌, encode_utf8_all}
use Rattle.std.specs.List.{list_all, flat_map}
use Rattle.dotenvy_format.specs.Characters.{line_feed, single_quote, equals_sign, backslash}
use Rattle.dotenvy_exporter.specs.Texts.{has, onto_part}
use Rattle.dotenvy_exporter.specs.Shell.{Bare, Quoted, first_word, is_exportable, shell_lines}
use Rattle.dotenvy_exporter.specs.Reserved.{is_reserved}
use Rattle.dotenvy_exporter.specs.Shell.{begins_shell_name, continues_shell_name, is_shell_name}
use Rattle.dotenvy_exporter.specs.Shell.{export_word, after, exported}
use Rattle.dotenvy_exporter.specs.Shell.{lines_pairs, shell_reads, shell_reads_bytes}
use Rattle.dotenvy_exporter.specs.Shell.{shell_character, shell_line, shell_text}
use Rattle.dotenvy_exporter.proofs.Pairs.{AreExported}
use Rattle.dotenvy_exporter.proofs.Tests.{and_left, and_right, none_of_others, not_is, or_left}
use Rattle.dotenvy_exporter.proofs.Tests.{or_right, split_name, scalars-append}
use Rattle.std.proofs.lemmas.Str.{is_utf8-from_IsUtf8, chars-encodes}
use Rattle.std.proofs.lemmas.Bool.Decides.{nat_tests}
use Rattle.std.proofs.Math.Utf8.{scalar, scalars}

-- a written character means the character, between quotes
character_quoted : (c : ℕ) (rest : List ℕ) → (c == 0) ≡ false →
    first_word Quoted (shell_character c ++ rest) ≡ onto_part c (first_word Quoted rest)
character_quoted c rest clean =
    (elim (c == single_quote) as (λ b. (c == single_quote) ≡ b →
    first_word Quoted ((if b then single_quote ∷ backslash ∷ single_quote ∷ single_quote ∷ [] else c ∷ []) ++ rest)
    ≡ onto_part c (first_word Quoted rest)) [
      | true ↦ λ h. ap (λ d. onto_part d (first_word Quoted rest)) (sym (eqb-true c single_quote h))
      | false ↦ λ h. rw (h, clean) refl
    ]) refl

-- between quotes a written value and the closing quote mean the value, where the word ends behind them
pub word_quoted : (value more : List ℕ) → has 0 value ≡ false → first_word Bare more ≡ Some ([], more) →
    first_word Quoted (flat_map shell_character value ++ single_quote ∷ more) ≡ Some (value, more)
word_quoted [] more clean e = e
word_quoted (c ∷ value) more clean e =
    rw (
      append_assoc (shell_character c) (flat_map shell_character value) (single_quote ∷ more),
      character_quoted c (flat_map shell_character value ++ single_quote ∷ more) (or_left (c == 0) (has 0 value)
          clean),
      word_quoted value more (or_right (c == 0) (has 0 value) clean) e,
    ) refl

-- neither a quote nor a backslash nor a line feed
abbrev is_unmarked : ℕ → Bool
is_unmarked c = not ((c == single_quote || c == backslash) || c == line_feed)

-- unmarked characters outside quotes are before what follows in its line
lines_unmarked : (xs more line : List ℕ) (lines : List (List ℕ)) → list_all is_unmarked xs ≡ true →
    shell_lines Bare more ≡ line ∷ lines → shell_lines Bare (xs ++ more) ≡ (xs ++ line) ∷ lines
lines_unmarked [] more line lines h e = e
lines_unmarked (x ∷ xs) more line lines h e =
    let one = not_is _ (and_left (is_unmarked x) (list_all is_unmarked xs) h) in
    let marks = or_left (x == single_quote || x == backslash) (x == line_feed) one in
    let feed = or_right (x == single_quote || x == backslash) (x == line_feed) one in
    let quote = or_left (x == single_quote) (x == backslash) marks in
    let slash = or_right (x == single_quote) (x == backslash) marks in
    rw (
      feed,
      quote,
      slash,
      lines_unmarked xs more line lines (and_right (is_unmarked x) (list_all is_unmarked xs)
          h) e,
    ) refl

-- a written character between quotes is before what follows in its line
character_line : (c : ℕ) (more line : List ℕ) (lines : List (List ℕ)) →
    shell_lines Quoted more ≡ line ∷ lines → shell_lines Quoted (shell_character c ++ more) ≡ (shell_character c
    ++ line) ∷ lines
character_line c more line lines e =
    (elim (c == single_quote) as (λ b. (c == single_quote) ≡ b →
    shell_lines Quoted ((if b then single_quote ∷ backslash ∷ single_quote ∷ single_quote ∷ [] else c ∷ []) ++ more)
    ≡ ((if b then single_quote ∷ backslash ∷ single_quote ∷ single_quote ∷ [] else c ∷ []) ++ line) ∷ lines) [
      | true ↦ λ h. rw e refl
      | false ↦ λ h. rw (h, e) refl
    ]) refl

-- a written value between quotes is before what follows in its line
pub lines_quoted : (value more line : List ℕ) (lines : List (List ℕ)) → shell_lines Quoted more ≡ line ∷ lines →
    shell_lines Quoted (flat_map shell_character value ++ more) ≡ (flat_map shell_character value ++ line) ∷ lines
lines_quoted [] more line lines e = e
lines_quoted (c ∷ value) more line lines e =
    let later = character_line c (flat_map shell_character value ++ more) (flat_map shell_character value ++ line)
    lines
    (lines_quoted value more line lines e) in
    rw (
      append_assoc (shell_character c) (flat_map shell_character value) more,
      append_assoc (shell_character c) (flat_map shell_character value) line,
    ) later

-- what is behind the name in a written line, without its line feed
abbrev pub quoted_value : List ℕ → List ℕ
quoted_value value = single_quote ∷ (flat_map shell_character value ++ single_quote ∷ [])

-- a written line without its line feed
abbrev pub bare_line : List ℕ → List ℕ → List ℕ
bare_line name value = export_word ++ (name ++ equals_sign ∷ quoted_value value)

-- later characters of a name
name_unmarked : (cs : List ℕ) → list_all continues_shell_name cs ≡ true → list_all is_unmarked cs ≡ true
name_unmarked [] h = refl
name_unmarked (c ∷ cs) h =
    let p = and_left (continues_shell_name c) (list_all continues_shell_name cs) h in
    let q = name_unmarked cs (and_right (continues_shell_name c) (list_all continues_shell_name cs) h) in
    let one : is_unmarked c ≡ true = grind (arith, nat_tests) in rw (one, q) refl

-- a name has no character that none of its characters can be
pub name_has_none : (d : ℕ) (cs : List ℕ) → continues_shell_name d ≡ false → list_all continues_shell_name cs ≡ true →
    has d cs ≡ false
name_has_none d cs other h = none_of_others continues_shell_name d cs other h

-- a name's first character may also be a later one
pub name_continues : (name : List ℕ) → is_shell_name name ≡ true → list_all continues_shell_name name ≡ true
name_continues [] h = refl
name_continues (c ∷ cs) h =
    rw (
      and_left (begins_shell_name c) (list_all continues_shell_name cs) h,
      and_right (begins_shell_name c) (list_all continues_shell_name cs) h,
    ) refl

-- a written line is the first line, whatever follows
pub line_first : (name value rest : List ℕ) → is_shell_name name ≡ true →
    shell_lines Bare (shell_line name value ++ rest) ≡ bare_line name value ∷ shell_lines Bare rest
line_first name value rest h =
    let after : shell_lines Bare (equals_sign ∷ single_quote ∷ (flat_map shell_character value ++ single_quote ∷
    line_feed ∷ rest))
    ≡ (equals_sign ∷ quoted_value value) ∷ shell_lines Bare rest =
    rw (lines_quoted value (single_quote ∷ line_feed ∷ rest) (single_quote ∷ []) (shell_lines Bare rest) refl) refl in
    let named = lines_unmarked name
    (equals_sign ∷ single_quote ∷ (flat_map shell_character value ++ single_quote ∷ line_feed ∷ rest))
    (equals_sign ∷ quoted_value value) (shell_lines Bare rest) (name_unmarked name (name_continues name h)) after in
    let split : shell_line name value ++ rest
    ≡ export_word ++ (name ++ equals_sign ∷ single_quote ∷ (flat_map shell_character value ++ single_quote ∷
    line_feed ∷ rest)) =
    simp append_assoc in
    ap (shell_lines Bare) split ∙ rw named refl

-- a name that is exported is that of a shell's variable
pub exportable_name : (name : List ℕ) → is_exportable name ≡ true → is_shell_name name ≡ true
exportable_name name h = and_left (is_shell_name name) (not (is_reserved (encode_utf8_all name))) h

-- a written line exports its pair
pub line_exports : (name value : List ℕ) → is_exportable name ≡ true → has 0 value ≡ false →
    exported (after export_word (bare_line name value)) ≡ Some (name, value)
line_exports name value h clean =
    let none = name_has_none equals_sign name refl (name_continues name (exportable_name name h)) in
    rw (split_name name (quoted_value value) none, h, word_quoted value [] clean refl) refl

-- the characters are read as the pairs
text_reads : (pairs : List (List ℕ × List ℕ)) → AreExported pairs → shell_reads (shell_text pairs) ≡ Some pairs
text_reads [] are = refl
text_reads ((name, value) ∷ pairs) are =
    let h = are.0 in
    ap lines_pairs (line_first name value (shell_text pairs) (exportable_name name h))
    ∙ rw (line_exports name value h are.2, text_reads pairs are.3) refl

-- a written value is of Unicode scalar values
pub value_scalars : (value : List ℕ) → scalars value ≡ true → scalars (flat_map shell_character value) ≡ true
value_scalars [] h = refl
value_scalars (c ∷ value) h =
    let one = and_left (scalar c) (scalars value) h in
    let later = value_scalars value (and_right (scalar c) (scalars value) h) in
    grind (arith, nat_tests)

pub line_scalars : (name value : List ℕ) → scalars (name ++ value) ≡ true → scalars (shell_line name value) ≡ true
line_scalars name value h =
    let both : (scalars name && scalars value) ≡ true = rw (scalars-append name value) at h in
    simp (
      scalars-append,
      and_left (scalars name) (scalars value) both,
      value_scalars value (and_right (scalars name) (scalars value) both),
    ) refl

text_scalars : (pairs : List (List ℕ × List ℕ)) → AreExported pairs → scalars (shell_text pairs) ≡ true
text_scalars [] are = refl
text_scalars ((name, value) ∷ pairs) are =
    rw (
      scalars-append (shell_line name value) (shell_text pairs),
      line_scalars name value are.1,
      text_scalars pairs are.3,
    ) refl

-- the bytes are read as the pairs
pub bytes_read : (pairs : List (List ℕ × List ℕ)) → AreExported pairs →
    shell_reads_bytes (encode_utf8_all (shell_text pairs)) ≡ Some pairs
bytes_read pairs are =
    let text = text_scalars pairs are in
    rw (
      is_utf8-from_IsUtf8 (encode_utf8_all (shell_text pairs)) (shell_text pairs, (text, refl)),
      chars-encodes (shell_text pairs) text,
    ) (text_reads pairs are)
