-- What a POSIX shell makes of lines that prepare a command: pairs that it exports, and words that it puts before the
-- command, for `env`. Nothing is said of other texts (None), nor of a word for `env` that has no name before its first
-- `=`, or begins with `-`, which `env` takes for an option.
use Rattle.std.specs.Prelude.{ℕ, Bool, false, not, ◌&&◌, ◌==◌, List, [], ◌∷◌, ◌++◌, map, codes}
use Rattle.std.specs.Prelude.{if◌then◌else◌, Option, Some, None}
use Rattle.std.specs.List.{flat_map}
use Rattle.std.specs.Option.{option_map}
use Rattle.std.specs.Str.{is_utf8, chars}
use Rattle.dotenvy_format.specs.Characters.{equals_sign}
use Rattle.dotenvy_exporter.specs.declared.refusal.Reason.{Reason}
use Rattle.dotenvy_exporter.specs.declared.refusal.Reason.TheVariants as reason
use Rattle.dotenvy_exporter.specs.Shell.{Bare, after, export_word, exported, first_word}
use Rattle.dotenvy_exporter.specs.Shell.{followed_by}
use Rattle.dotenvy_exporter.specs.Shell.{is_exportable, shell_character, shell_line, shell_lines}
use Rattle.dotenvy_exporter.specs.Texts.{Pair, has, hyphen, split_at_equals}

-- what a line does: it exports a pair, or puts the word NAME=VALUE before the arguments
pub data Step : Type 0 where
  Exports : Pair → Step
  Puts : Pair → Step

-- what comes before the word in a line that puts it
abbrev pub set_words : List ℕ
set_words = codes "set -- "

-- what comes after the word: the arguments that there are already
abbrev pub arguments : List ℕ
arguments = codes " \"$@\""

-- `env` takes the word NAME=VALUE for a pair, and not for an option: the name isn't empty, and doesn't
-- begin with `-`
abbrev pub is_put : List ℕ → Bool
is_put [] = false
is_put (c ∷ cs) = not (c == hyphen)

-- what `env` takes of a word with these parts
abbrev pub taken : Option Pair → Option Step
taken None = None
taken (Some (name, value)) = if is_put name then Some (Puts (name, value)) else None

-- what is put by a word
abbrev pub put_by : Option (List ℕ) → Option Step
put_by None = None
put_by (Some word) = taken (split_at_equals word)

-- what is put by what is after `set -- `
abbrev pub put_after : Option (List ℕ) → Option Step
put_after None = None
put_after (Some rest) = put_by (followed_by arguments (first_word Bare rest))

-- the pair is exported, if there is one, or something else is done
abbrev pub exports_or : Option Pair → Option Step → Option Step
exports_or None other = other
exports_or (Some pair) other = Some (Exports pair)

-- what a line does
abbrev pub line_step : List ℕ → Option Step
line_step line = exports_or (exported (after export_word line)) (put_after (after set_words line))

-- the step before others, if each is known
abbrev pub onto_steps : Option Step → Option (List Step) → Option (List Step)
onto_steps None steps = None
onto_steps (Some step) None = None
onto_steps (Some step) (Some steps) = Some (step ∷ steps)

-- what lines do, in order
abbrev pub lines_steps : List (List ℕ) → Option (List Step)
lines_steps [] = Some []
lines_steps (line ∷ lines) = onto_steps (line_step line) (lines_steps lines)

-- what a shell does that is given this text
abbrev pub exec_steps : List ℕ → Option (List Step)
exec_steps text = lines_steps (shell_lines Bare text)

-- the pair that a step gives the command
abbrev pub step_pair : Step → Pair
step_pair (Exports pair) = pair
step_pair (Puts pair) = pair

-- the pairs that the command is given, in the order of the lines
abbrev pub exec_reads_bytes : List ℕ → Option (List Pair)
exec_reads_bytes bytes =
    if is_utf8 bytes then option_map (map step_pair) (exec_steps (chars bytes)) else None

-- set -- 'NAME=VALUE' "$@" and a line feed
abbrev pub set_line : List ℕ → List ℕ → List ℕ
set_line name value =
    codes "set -- '"
    ++ (flat_map shell_character (name ++ equals_sign ∷ value) ++ codes "' \"$@\"\n")

-- what is written for a pair: it is exported if a shell can be given it, and else put
abbrev pub exec_line : List ℕ → List ℕ → List ℕ
exec_line name value = if is_exportable name then shell_line name value else set_line name value

-- what is written for pairs
abbrev pub exec_text : List Pair → List ℕ
exec_text pairs = flat_map (λ pair. exec_line pair.0 pair.1) pairs

-- `env` can be handed the name: it takes its word for a pair, and the name has no `=`
abbrev pub is_environment_name : List ℕ → Bool
is_environment_name name = is_put name && not (has equals_sign name)

-- why a command can't be given this pair, if it can't
abbrev pub exec_refusal : Pair → Option Reason
exec_refusal (name, value) =
    if not (is_environment_name name) then Some reason.Name else
    if has 0 (name ++ value) then Some reason.Nul else None
