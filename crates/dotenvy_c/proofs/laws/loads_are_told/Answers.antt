use Rattle.dotenvy_c.proofs.SaidLoads.{loads_all_entries}
use Rattle.dotenvy_c.proofs.laws.loads_are_told.Goals as goal

pub returns : goal.returns
returns c = loads_all_entries
