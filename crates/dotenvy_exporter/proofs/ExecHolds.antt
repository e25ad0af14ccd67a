-- What a shell can hand to a command.
use Rattle.std.proofs.Common.{◌≡◌, ℕ, false, List, [], ◌∷◌, map, refl}
use Rattle.std.specs.Prelude.{◌==◌, Option, Some, None}
use Rattle.std.specs.Option.{option_map}
use Rattle.std.specs.Str.{is_utf8, chars}
use Rattle.dotenvy_format.specs.Characters.{equals_sign}
use Rattle.dotenvy_exporter.specs.declared.target.Target.TheVariants as target
use Rattle.dotenvy_exporter.specs.Exec.{Puts, Step, arguments, exec_reads_bytes}
use Rattle.dotenvy_exporter.specs.Exec.{exec_refusal, exec_steps, exports_or, is_put}
use Rattle.dotenvy_exporter.specs.Exec.{line_step, lines_steps, onto_steps, put_after, put_by}
use Rattle.dotenvy_exporter.specs.Exec.{set_words, step_pair, taken}
use Rattle.dotenvy_exporter.specs.Shell.{Bare, after, export_word, exported, first_word}
use Rattle.dotenvy_exporter.specs.Shell.{followed_by, shell_lines, shell_refusal}
use Rattle.dotenvy_exporter.specs.Texts.{Pair, has, hyphen, onto_part, split_at_equals}
use Rattle.dotenvy_exporter.proofs.Pairs.{shell_held}
use Rattle.dotenvy_exporter.proofs.ShellHolds.{CleanText, Givable, GivablePair, exported_givable, whole_clean}
use Rattle.dotenvy_exporter.proofs.ShellLines.{exportable_name, name_continues, name_has_none}
use Rattle.dotenvy_exporter.proofs.Tests.{join_clean, or_left, or_right, picked}

-- the parts of a text around its first `=`: no `=` before it, and no NUL
abbrev CleanParts : Option Pair → Type 0
CleanParts None = Unit {0}
CleanParts (Some (name, value)) = (has equals_sign name ≡ false) × (has 0 name ≡ false) × (has 0 value ≡ false)

onto_clean : (c : ℕ) (parts : Option Pair) → (c == equals_sign) ≡ false → (c == 0) ≡ false → CleanParts parts →
    CleanParts (onto_part c parts)
onto_clean c None h k are = tt
onto_clean c (Some (name, value)) h k are = (rw (h, are.0) refl, rw (k, are.1) refl, are.2)

parts_clean : (text : List ℕ) → has 0 text ≡ false → CleanParts (split_at_equals text)
parts_clean [] h = tt
parts_clean (c ∷ cs) h =
    let later = or_right (c == 0) (has 0 cs) h in
    picked CleanParts (c == equals_sign) (Some ([], cs)) (onto_part c (split_at_equals cs)) (λ k. (refl, refl, later))
    (λ k. onto_clean c (split_at_equals cs) k (or_left (c == 0) (has 0 cs) h) (parts_clean cs later))

-- a step that is done, if any, gives a pair that can be given
abbrev GivableStep : Option Step → Type 0
GivableStep None = Unit {0}
GivableStep (Some step) = exec_refusal (step_pair step) ≡ None

taken_givable : (parts : Option Pair) → CleanParts parts → GivableStep (taken parts)
taken_givable None are = tt
taken_givable (Some (name, value)) are =
    picked GivableStep (is_put name) (Some (Puts (name, value))) None
    (λ h. rw (h, are.0, join_clean 0 name value are.1 are.2) refl) (λ h. tt)

put_givable : (word : Option (List ℕ)) → CleanText word → GivableStep (put_by word)
put_givable None clean = tt
put_givable (Some word) clean = taken_givable (split_at_equals word) (parts_clean word clean)

after_givable : (rest : Option (List ℕ)) → GivableStep (put_after rest)
after_givable None = tt
after_givable (Some rest) = put_givable (followed_by arguments (first_word Bare rest)) (whole_clean arguments rest)

-- what a shell can be given to export, a command can be given
exports_givable : (name value : List ℕ) → shell_refusal (name, value) ≡ None → exec_refusal (name, value) ≡ None
exports_givable [] value h = cc
exports_givable (c ∷ name) value h =
    let held = shell_held (c ∷ name) value h in
    let all = name_continues (c ∷ name) (exportable_name (c ∷ name) held.can) in
    rw (
      or_left (c == hyphen) (has hyphen name) (name_has_none hyphen (c ∷ name) refl all),
      name_has_none equals_sign (c ∷ name) refl all,
      join_clean 0 (c ∷ name) value (name_has_none 0 (c ∷ name) refl all) held.clean,
    ) refl

or_givable : (pair : Option Pair) (other : Option Step) → GivablePair pair → GivableStep other →
    GivableStep (exports_or pair other)
or_givable None other h k = k
or_givable (Some (name, value)) other h k = exports_givable name value h

line_givable : (line : List ℕ) → GivableStep (line_step line)
line_givable line =
    or_givable (exported (after export_word line)) (put_after (after set_words line))
    (exported_givable (after export_word line)) (after_givable (after set_words line))

-- the steps that are done give pairs that can be given
abbrev GivableSteps : Option (List Step) → Type 0
GivableSteps steps = Givable target.Exec (option_map (map step_pair) steps)

onto_givable : (step : Option Step) (steps : Option (List Step)) → GivableStep step → GivableSteps steps →
    GivableSteps (onto_steps step steps)
onto_givable None steps h are = tt
onto_givable (Some step) None h are = tt
onto_givable (Some step) (Some steps) h are = (rw h refl, are)

lines_givable : (lines : List (List ℕ)) → GivableSteps (lines_steps lines)
lines_givable [] = tt
lines_givable (line ∷ lines) =
    onto_givable (line_step line) (lines_steps lines) (line_givable line) (lines_givable lines)

-- a command is given only pairs that it can be given
pub exec_holds : (bytes : List ℕ) → Givable target.Exec (exec_reads_bytes bytes)
exec_holds bytes =
    picked (Givable target.Exec) (is_utf8 bytes) (option_map (map step_pair) (exec_steps (chars bytes))) None
    (λ h. lines_givable (shell_lines Bare (chars bytes))) (λ h. tt)
