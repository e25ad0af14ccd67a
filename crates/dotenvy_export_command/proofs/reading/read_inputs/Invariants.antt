use Rattle.std.proofs.Common.{◌≡◌, ◌≤◌, true}
use Rattle.std.specs.Prelude.{vec_len}
use Rattle.std.specs.FinMap as fin
use Rattle.dotenvy_export_command.proofs.reading.read_inputs.Given as goal

-- an environment that is ignored is empty, and each file that was read has a name
abbrev pub invariant-files : goal.invariant-files
invariant-files g l = record {
  alone : l.words.ignores_environment ≡ true → l.inputs.1.1.0.names ≡ fin.empty;
  named : vec_len l.inputs.1.0 ≤ vec_len l.inputs.0;
}
