-- The words of the command line. They ask for what `clap` finds in them. A word is its bytes.
use Rattle.std.specs.Prelude.{◌≡◌, Bool, List, [], ◌∷◌}
use Rattle.std.specs.Prelude.{Option, Some, None, codes, if◌then◌else◌}
use Rattle.std.specs.Prelude.{unwrap_or}
use Rattle.std.specs.List.{filter_map}
use Rattle.std.specs.Option.{option_and_then, option_map, option_map_or, option_or}
use Rattle.clap.specs.Words.{App, Row, Rule, Text, fault_of, first_of, matches_of}
use Rattle.clap.specs.Words.{with_rule}
use Rattle.dotenvy_words.specs.Found.{dialect_of, is_on, values_of}
use Rattle.dotenvy_words.specs.Rules.{file_rule, flag_rule, many_rule, named, one_rule}
use Rattle.dotenvy_format.specs.declared.dialect.Dialect.{Dialect}
use Rattle.dotenvy_findings.specs.declared.kind.Kind.{Kind}
use Rattle.dotenvy_findings.specs.Kinds.{is_fault}
use Rattle.dotenvy_findings.specs.Named.{kind_named}
use Rattle.dotenvy_checker.specs.declared.mistake.Checked.{Checked}
use Rattle.dotenvy_checker.specs.declared.mistake.Checked.TheVariants as checked
use Rattle.dotenvy_checker.specs.declared.mistake.Mistake.{Mistake}
use Rattle.dotenvy_checker.specs.declared.mistake.Mistake.TheVariants as mistake
use Rattle.dotenvy_reports.specs.declared.format.Format.{Format}
use Rattle.dotenvy_reports.specs.declared.format.Format.TheVariants as format
use Rattle.dotenvy_reports.specs.Formats.{format_of as format_named}

-- the option `--format`, whose value is `text` where it is not given
abbrev pub format_rule : Rule
format_rule = record (one_rule (codes "format")) { defaults = codes "text" ∷ [] }

-- the option `--quiet`, or `-q`
abbrev pub quiet_rule : Rule
quiet_rule = record (flag_rule (codes "quiet")) { short = Some 113 }

-- the command with the options that have no value
abbrev pub with_flags : App
with_flags =
    with_rule (with_rule (with_rule (with_rule (with_rule (with_rule
    (named (codes "dotenvy_check"))
    (flag_rule (codes "next"))) (flag_rule (codes "strict"))) quiet_rule)
    (flag_rule (codes "text"))) (flag_rule (codes "together")))
    (flag_rule (codes "ignore-environment"))

-- the command line of the program
unfoldable pub checker : App
checker =
    with_rule (with_rule (with_rule (with_rule (with_rule (with_rule (with_rule with_flags
    (many_rule (codes "allow"))) (many_rule (codes "deny"))) (many_rule (codes "known")))
    (many_rule (codes "exclude"))) (one_rule (codes "schema"))) format_rule) file_rule

-- what words ask for: how files are read, what counts, what is printed, and the files, in their
-- order
pub record Asked : Type 0 where
  pub dialect : Dialect
  pub strict : Bool
  pub quiet : Bool
  pub text : Bool
  pub together : Bool
  pub ignores_environment : Bool
  pub allowed : List Kind
  pub denied : List Kind
  pub known : List Text
  pub excluded : List Text
  pub schema : Option Text
  pub format : Format
  pub files : List Text

-- the kinds that have these names
abbrev pub kinds_of : List Text → List Kind
kinds_of names = filter_map kind_named names

-- the format that is asked for
abbrev pub format_of : List Row → Format
format_of rows =
    unwrap_or (option_and_then format_named (first_of (codes "format") rows)) format.Text

-- what is asked for by what was found
abbrev pub asked_of : List Row → Asked
asked_of rows = record {
  dialect = dialect_of rows;
  strict = is_on (codes "strict") rows;
  quiet = is_on (codes "quiet") rows;
  text = is_on (codes "text") rows;
  together = is_on (codes "together") rows;
  ignores_environment = is_on (codes "ignore-environment") rows;
  allowed = kinds_of (values_of (codes "allow") rows);
  denied = kinds_of (values_of (codes "deny") rows);
  known = values_of (codes "known") rows;
  excluded = values_of (codes "exclude") rows;
  schema = first_of (codes "schema") rows;
  format = format_of rows;
  files = values_of (codes "file") rows;
}

-- a kind that is an error can't be allowed
abbrev pub kind_mistake : Kind → Option Mistake
kind_mistake kind = if is_fault kind then Some mistake.AllowedError else None

-- what is wrong with a value of this option
abbrev pub value_mistake : Checked → Text → Option Mistake
value_mistake checked.Allow value =
    option_map_or kind_mistake (kind_named value) (Some mistake.UnknownKind)
value_mistake checked.Deny value =
    option_map_or (λ found. None) (kind_named value) (Some mistake.UnknownKind)
value_mistake checked.Format value =
    option_map_or (λ found. None) (format_named value) (Some mistake.UnknownFormat)

-- the first of these values of this option with which something is wrong, and what
abbrev pub first_mistake : Checked → List Text → Option (Mistake × Text)
first_mistake option [] = None
first_mistake option (value ∷ values) =
    option_or (option_map (λ wrong. (wrong, value)) (value_mistake option value))
    (first_mistake option values)

-- the first value with which something is wrong: of `--allow`, else of `--deny`, else of `--format`
abbrev pub mistake_of : List Row → Option (Mistake × Text)
mistake_of rows =
    option_or (first_mistake checked.Allow (values_of (codes "allow") rows))
    (option_or (first_mistake checked.Deny (values_of (codes "deny") rows))
    (first_mistake checked.Format (values_of (codes "format") rows)))

-- words are taken: `clap` takes them, and nothing is wrong with a value
abbrev pub AreTaken : List Text → Type 0
AreTaken words =
    (fault_of checker words ≡ []) × (mistake_of (matches_of checker words) ≡ None)
