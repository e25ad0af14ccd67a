-- The words of the command line. They ask for what `clap` finds in them. A word is its bytes.
use Rattle.std.specs.Prelude.{◌≡◌, Bool, List, [], Option}
use Rattle.std.specs.Prelude.{IsSome, codes, if◌then◌else◌}
use Rattle.std.specs.Option.{option_and_then}
use Rattle.clap.specs.Words.{App, Row, Rule, Text, fault_of, first_of, matches_of}
use Rattle.clap.specs.Words.{new_rule, with_rule}
use Rattle.dotenvy_words.specs.Found.{dialect_of, is_on}
use Rattle.dotenvy_words.specs.Rules.{file_rule, flag_rule, many_rule, named}
use Rattle.dotenvy_format.specs.declared.dialect.Dialect.{Dialect}
use Rattle.env_layers.specs.declared.layers.Mode.{Mode}
use Rattle.env_layers.specs.declared.layers.Mode.TheVariants.{Keep, Override}
use Rattle.dotenvy_exporter.specs.declared.target.Target.{Target}
use Rattle.dotenvy_export_command.specs.Names.{target_named}

-- the target
abbrev pub target_rule : Rule
target_rule = new_rule (codes "target")

-- the command line of the program
unfoldable pub exporter : App
exporter =
    with_rule (with_rule (with_rule (with_rule (with_rule (with_rule (with_rule
    (named (codes "dotenvy_export"))
    (flag_rule (codes "next"))) (flag_rule (codes "override")))
    (flag_rule (codes "ignore-environment"))) (flag_rule (codes "skip-reserved")))
    (many_rule (codes "optional"))) target_rule) file_rule

-- what words ask for, but for the files: the target, if it is one, how files are read, and what is
-- left out
pub record Asked : Type 0 where
  pub target : Option Target
  pub dialect : Dialect
  pub mode : Mode
  pub skips_reserved : Bool
  pub ignores_environment : Bool

-- the target that is asked for, if there is one of this name
abbrev pub target_of : List Row → Option Target
target_of rows = option_and_then target_named (first_of (codes "target") rows)

-- what is asked for by what was found
abbrev pub asked_of : List Row → Asked
asked_of rows = record {
  target = target_of rows;
  dialect = dialect_of rows;
  mode = if is_on (codes "override") rows then Override else Keep;
  skips_reserved = is_on (codes "skip-reserved") rows;
  ignores_environment = is_on (codes "ignore-environment") rows;
}

-- words are taken: `clap` takes them, and they name a target
abbrev pub AreTaken : List Text → Type 0
AreTaken words =
    (fault_of exporter words ≡ []) × IsSome (target_of (matches_of exporter words))
