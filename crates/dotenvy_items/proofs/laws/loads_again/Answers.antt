use Rattle.dotenvy_items.proofs.WholeLoads as loads
use Rattle.dotenvy_items.proofs.laws.loads_again.Goals as goal

pub returns : goal.returns
returns g c = loads.loads_again
