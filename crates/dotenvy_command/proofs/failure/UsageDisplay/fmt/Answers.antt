use Rattle.std.proofs.Common.{rules}
use Rattle.dotenvy_command.proofs.failure.UsageDisplay.fmt.Goals as goal

pub returns-in-UnknownOption-clause-writes : goal.returns-in-UnknownOption-clause-writes
returns-in-UnknownOption-clause-writes g c = search rules
