use Rattle.std.proofs.Common.{rules}
use Rattle.dotenvy_command.proofs.run.list.Goals as goal

pub returns-clause-lists : goal.returns-clause-lists
returns-clause-lists g c = search rules
