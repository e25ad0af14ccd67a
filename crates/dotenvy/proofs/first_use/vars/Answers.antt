use Rattle.std.proofs.Common.{rules}
use Rattle.dotenvy.proofs.first_use.vars.Goals as goal

pub returns-clause-pairs : goal.returns-clause-pairs
returns-clause-pairs g c = search rules
