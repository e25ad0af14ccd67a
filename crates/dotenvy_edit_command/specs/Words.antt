-- The words of the command line. They ask for what `clap` finds in them. A word is its bytes.
use Rattle.std.specs.Prelude.{◌||◌, Bool, List, Option, Some, codes}
use Rattle.std.specs.Str.{bytes_eq}
use Rattle.clap.specs.Words.{App, Row, Rule, Text, first_of}
use Rattle.clap.specs.Words.{new_rule, with_rule}
use Rattle.dotenvy_words.specs.Found.{dialect_of, is_on, values_of}
use Rattle.dotenvy_words.specs.Rules.{file_rule, flag_rule, named}
use Rattle.dotenvy_format.specs.declared.dialect.Dialect.{Dialect}

-- the option `--quiet`, or `-q`
abbrev pub quiet_rule : Rule
quiet_rule = record (flag_rule (codes "quiet")) { short = Some 113 }

-- the command
abbrev pub command_rule : Rule
command_rule = new_rule (codes "command")

-- the command line of the program
unfoldable pub editor : App
editor =
    with_rule (with_rule (with_rule (with_rule (with_rule (with_rule (with_rule (with_rule
    (named (codes "dotenvy_edit"))
    (flag_rule (codes "next"))) (flag_rule (codes "portable"))) (flag_rule (codes "create")))
    (flag_rule (codes "dry-run"))) (flag_rule (codes "exact"))) quiet_rule) command_rule) file_rule

-- how a command is carried out, as the options ask for it
pub record Options : Type 0 where
  pub dialect : Dialect
  pub is_portable : Bool
  pub creates : Bool
  pub is_dry : Bool
  pub is_exact : Bool
  pub is_quiet : Bool

-- the options that were found
abbrev pub options_of : List Row → Options
options_of rows = record {
  dialect = dialect_of rows;
  is_portable = is_on (codes "portable") rows;
  creates = is_on (codes "create") rows;
  is_dry = is_on (codes "dry-run") rows;
  is_exact = is_on (codes "exact") rows;
  is_quiet = is_on (codes "quiet") rows;
}

-- the command that was found, if there is one
abbrev pub command_of : List Row → Option Text
command_of rows = first_of (codes "command") rows

-- the words after the command
abbrev pub words_of : List Row → List Text
words_of rows = values_of (codes "file") rows

-- a word is one of the four commands
abbrev pub is_command : Text → Bool
is_command word =
    (bytes_eq word (codes "set") || bytes_eq word (codes "get"))
    || (bytes_eq word (codes "unset") || bytes_eq word (codes "rename"))
