use Rattle.std.proofs.Common.{rules}
use Rattle.dotenvy.proofs.first_use.var.Goals as goal

pub returns-in-None-clause-answer : goal.returns-in-None-clause-answer
returns-in-None-clause-answer g c = search rules
