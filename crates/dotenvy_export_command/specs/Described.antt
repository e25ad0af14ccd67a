-- What `clap` specifies of the command line.
use Rattle.std.proofs.Common.{◌≡◌, true, [], refl}
use Rattle.clap.specs.Words.{fault_of, is_simple, is_simple_and_free}
use Rattle.clap.proofs.OnLiterals.{clap_on_literals}
use Rattle.dotenvy_export_command.specs.Words.{exporter}

-- the command has none of the settings that `clap` does not specify
pub is_exporter_simple : is_simple exporter ≡ true
unfolding clap_on_literals exporter
is_exporter_simple = refl

-- and no argument of it has a rule on another
pub is_exporter_free : is_simple_and_free exporter ≡ true
unfolding clap_on_literals exporter
is_exporter_free = refl

-- an empty command line is taken
pub none_refused : fault_of exporter [] ≡ []
unfolding clap_on_literals exporter
none_refused = refl
