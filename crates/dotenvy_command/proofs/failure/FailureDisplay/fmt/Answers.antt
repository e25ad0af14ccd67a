use Rattle.std.proofs.Common.{rules}
use Rattle.dotenvy_command.proofs.failure.FailureDisplay.fmt.Goals as goal

pub returns-in-Usage-clause-writes : goal.returns-in-Usage-clause-writes
returns-in-Usage-clause-writes g c = search rules
