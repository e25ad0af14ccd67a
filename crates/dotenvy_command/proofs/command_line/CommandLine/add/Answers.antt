use Rattle.std.proofs.Common.{arith}
use Rattle.std.proofs.lemmas.Grind.{common_steps}
use Rattle.dotenvy_command.proofs.command_line.CommandLine.add.Goals as goal

pub returns-in_ok-push-in-File : goal.returns-in_ok-push-in-File
returns-in_ok-push-in-File g c = grind (arith, common_steps)
