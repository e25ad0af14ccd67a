use Rattle.dotenvy_items.proofs.WholeLoads.{load_takes_all, override_takes_all}
use Rattle.dotenvy_items.proofs.laws.loads_take_all.Goals as goal

pub returns : goal.returns
returns g c = (load_takes_all, override_takes_all)
