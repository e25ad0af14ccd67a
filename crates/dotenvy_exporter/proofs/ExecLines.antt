-- A written line, as a shell reads it that prepares a command.
use Rattle.std.proofs.Common.{◌≡◌, ◌∙◌, ℕ, Bool, true, false, List, [], ◌∷◌, ◌++◌, inl, inr, refl, ap, map}
use Rattle.std.proofs.Common.{append_assoc}
use Rattle.std.specs.Prelude.{Some, ◌==◌, codes, encode_utf8_all, if◌then◌else◌, not}
use Rattle.std.specs.List.{flat_map}
use Rattle.std.proofs.Math.Utf8.{scalars}
use Rattle.std.proofs.lemmas.Bool.{cases_Bool}
use Rattle.std.proofs.lemmas.List.Folds.{list_any-append}
use Rattle.std.proofs.lemmas.Str.{is_utf8-from_IsUtf8, chars-encodes}
use Rattle.dotenvy_format.specs.Characters.{equals_sign, single_quote}
use Rattle.dotenvy_exporter.specs.Exec.{Step, Exports, Puts, arguments, exec_line, exec_reads_bytes}
use Rattle.dotenvy_exporter.specs.Exec.{exec_steps, exec_text}
use Rattle.dotenvy_exporter.specs.Exec.{is_environment_name, is_put, line_step, lines_steps, onto_steps}
use Rattle.dotenvy_exporter.specs.Exec.{set_line, step_pair, put_by}
use Rattle.dotenvy_exporter.specs.Shell.{Bare, is_exportable, shell_character, shell_lines}
use Rattle.dotenvy_exporter.specs.Texts.{has}
use Rattle.dotenvy_exporter.proofs.Pairs.{AreHanded}
use Rattle.dotenvy_exporter.proofs.ShellLines.{exportable_name, line_exports, line_first, line_scalars}
use Rattle.dotenvy_exporter.proofs.ShellLines.{lines_quoted, value_scalars, word_quoted}
use Rattle.dotenvy_exporter.proofs.Tests.{and_left, and_right, not_is, or_left, or_right, scalars-append, split_name}

-- the word of a pair
abbrev word : List ℕ → List ℕ → List ℕ
word name value = name ++ equals_sign ∷ value

-- it has no NUL, if the name and the value have none
word_clean : (name value : List ℕ) → has 0 (name ++ value) ≡ false → has 0 (word name value) ≡ false
word_clean name value h =
    let parts = rw (list_any-append (λ d. d == 0) name value) at h in
    rw (
      list_any-append (λ d. d == 0) name (equals_sign ∷ value),
      or_left (has 0 name) (has 0 value) parts,
      or_right (has 0 name) (has 0 value) parts,
    ) refl

value_clean : (name value : List ℕ) → has 0 (name ++ value) ≡ false → has 0 value ≡ false
value_clean name value h =
    let parts = rw (list_any-append (λ d. d == 0) name value) at h in or_right (has 0 name) (has 0 value) parts

-- a line that puts a word, without its line feed
abbrev bare_set : List ℕ → List ℕ → List ℕ
bare_set name value =
    codes "set -- '" ++ (flat_map shell_character (word name value) ++ single_quote ∷ arguments)

-- a line that puts a word is the first line, whatever follows
set_first : (name value rest : List ℕ) →
    shell_lines Bare (set_line name value ++ rest) ≡ bare_set name value ∷ shell_lines Bare rest
set_first name value rest =
    let split : set_line name value ++ rest
    ≡ codes "set -- '" ++ (flat_map shell_character (word name value) ++ (codes "' \"$@\"\n" ++ rest)) = simp
    append_assoc in
    ap (shell_lines Bare) split
    ∙ rw (lines_quoted (word name value) (codes "' \"$@\"\n" ++ rest) (single_quote ∷ arguments) (shell_lines Bare
    rest) refl) refl

-- a name that can be handed has no `=`
no_equals : (name : List ℕ) → is_environment_name name ≡ true → has equals_sign name ≡ false
no_equals name h = not_is (has equals_sign name) (and_right (is_put name) (not (has equals_sign name)) h)

put_word : (name value : List ℕ) → is_environment_name name ≡ true → put_by (Some (word name value)) ≡ Some (Puts
    (name, value))
put_word name value h =
    rw (split_name name value (no_equals name h), and_left (is_put name) (not (has equals_sign name)) h) refl

-- a line that puts a word puts its pair
set_puts : (name value : List ℕ) → is_environment_name name ≡ true → has 0 (name ++ value) ≡ false →
    line_step (bare_set name value) ≡ Some (Puts (name, value))
set_puts name value h clean =
    rw (word_quoted (word name value) arguments (word_clean name value clean) refl) (put_word name value h)

-- what a pair's line does
abbrev step_of : List ℕ → List ℕ → Step
step_of name value = if is_exportable name then Exports (name, value) else Puts (name, value)

-- the step of a pair's line gives the pair
step_gives : (b : Bool) (pair : List ℕ × List ℕ) → step_pair (if b then Exports pair else Puts pair) ≡ pair
step_gives true pair = refl
step_gives false pair = refl

-- a written line is the first line, and its step is that of its pair
line_done : (name value rest : List ℕ) → is_environment_name name ≡ true → has 0 (name ++ value) ≡ false →
    lines_steps (shell_lines Bare (exec_line name value ++ rest))
    ≡ onto_steps (Some (step_of name value)) (lines_steps (shell_lines Bare rest))
line_done name value rest h clean =
    elim (cases_Bool (is_exportable name)) [
      | inl can ↦
          rw (
            can,
            line_first name value rest (exportable_name name can),
            line_exports name value can (value_clean name value clean),
          ) refl
      | inr cannot ↦ rw (cannot, set_first name value rest, set_puts name value h clean) refl
    ]

-- the lines do the steps of the pairs
steps_of : (pairs : List (List ℕ × List ℕ)) → AreHanded pairs →
    exec_steps (exec_text pairs) ≡ Some (map (λ pair. step_of pair.0 pair.1) pairs)
steps_of [] are = refl
steps_of ((name, value) ∷ pairs) are =
    rw (line_done name value (exec_text pairs) are.0 are.2, steps_of pairs are.3) refl

-- these give the pairs
steps_give : (pairs : List (List ℕ × List ℕ)) → map step_pair (map (λ pair. step_of pair.0 pair.1) pairs) ≡ pairs
steps_give [] = refl
steps_give ((name, value) ∷ pairs) = rw (step_gives (is_exportable name) (name, value), steps_give pairs) refl

-- what is written is of Unicode scalar values
set_scalars : (name value : List ℕ) → scalars (name ++ value) ≡ true → scalars (set_line name value) ≡ true
set_scalars name value h =
    let both = rw (scalars-append name value) at h in
    let whole : scalars (word name value) ≡ true =
    rw (
      scalars-append name (equals_sign ∷ value),
      and_left (scalars name) (scalars value) both,
      and_right (scalars name) (scalars value) both,
    ) refl in
    rw (
      scalars-append (flat_map shell_character (word name value)) (codes "' \"$@\"\n"),
      value_scalars (word name
          value) whole,
    ) refl

exec_scalars : (name value : List ℕ) → scalars (name ++ value) ≡ true → scalars (exec_line name value) ≡ true
exec_scalars name value h =
    elim (cases_Bool (is_exportable name)) [
      | inl can ↦ rw can (line_scalars name value h)
      | inr cannot ↦ rw cannot (set_scalars name value h)
    ]

text_scalars : (pairs : List (List ℕ × List ℕ)) → AreHanded pairs → scalars (exec_text pairs) ≡ true
text_scalars [] are = refl
text_scalars ((name, value) ∷ pairs) are =
    rw (
      scalars-append (exec_line name value) (exec_text pairs),
      exec_scalars name value are.1,
      text_scalars pairs are.3,
    ) refl

-- the bytes are read as the pairs
pub bytes_read : (pairs : List (List ℕ × List ℕ)) → AreHanded pairs →
    exec_reads_bytes (encode_utf8_all (exec_text pairs)) ≡ Some pairs
bytes_read pairs are =
    let text = text_scalars pairs are in
    rw (
      is_utf8-from_IsUtf8 (encode_utf8_all (exec_text pairs)) (exec_text pairs, (text, refl)),
      chars-encodes (exec_text pairs) text,
      steps_of pairs are,
      steps_give pairs,
    ) refl
