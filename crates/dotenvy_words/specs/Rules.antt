-- The rules of a command and of its arguments, as `clap` has them.
use Rattle.std.specs.Prelude.{true, [], Some, codes}
use Rattle.clap.specs.Words.{App, Rule, Text, new_rule}
use Rattle.clap.specs.Simple.{new_shape}
use Rattle.clap.specs.declared.builder.action.ArgAction.TheVariants.{Append, Set, SetTrue}

-- a command without its options: it has a version, words begin after its name, and an option may be
-- repeated
abbrev pub named : Text → App
named name = record {
  top = record (new_shape name) {
    no_binary_name = true;
    has_version = true;
    args_override_self = true;
  };
  subs = [];
}

-- an option without a value
abbrev pub flag_rule : Text → Rule
flag_rule name = record (new_rule name) { long = Some name; action = Some SetTrue }

-- an option with a value, each of whose uses counts
abbrev pub many_rule : Text → Rule
many_rule name = record (new_rule name) { long = Some name; action = Some Append }

-- an option with a value, whose last use counts
abbrev pub one_rule : Text → Rule
one_rule name = record (new_rule name) { long = Some name; action = Some Set }

-- the files
abbrev pub file_rule : Rule
file_rule = record (new_rule (codes "file")) { action = Some Append }
