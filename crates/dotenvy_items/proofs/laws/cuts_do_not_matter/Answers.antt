use Rattle.dotenvy_items.proofs.Iterations.{give_the_same}
use Rattle.dotenvy_items.proofs.WholeLoads.{loads_the_same, overrides_the_same}
use Rattle.dotenvy_items.proofs.laws.cuts_do_not_matter.Goals as goal

pub returns : goal.returns
returns g c = (give_the_same, loads_the_same, overrides_the_same)
