use Rattle.std.proofs.Common.{rules}
use Rattle.dotenvy_command.proofs.command_line.word_of.Goals as goal

pub returns-in-text-3 : goal.returns-in-text-3
returns-in-text-3 g = search rules
