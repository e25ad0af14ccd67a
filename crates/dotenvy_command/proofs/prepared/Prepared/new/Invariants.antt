use Rattle.std.proofs.Common.{◌≡◌, false, None}
use Rattle.std.specs.Process.{clears_env, command_args, command_dir, command_program}
use Rattle.dotenvy_command.specs.Answers.{texts}
use Rattle.dotenvy_command.proofs.CommandNames.{SetsWithLeft}
use Rattle.dotenvy_command.proofs.prepared.Prepared.new.Given as goal

-- the names so far are set, those left are not, and the rest of the command stays
abbrev pub invariant-names : goal.invariant-names
invariant-names g l = record {
  names : SetsWithLeft l.env.names l.name-iterator l.command;
  program : command_program l.command ≡ l.program;
  arguments : command_args l.command ≡ texts l.arguments;
  inherits : clears_env l.command ≡ false;
  directory : command_dir l.command ≡ None;
}
