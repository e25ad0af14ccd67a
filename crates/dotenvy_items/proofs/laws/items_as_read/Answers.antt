use Rattle.dotenvy_items.proofs.Iterations as runs
use Rattle.dotenvy_items.proofs.laws.items_as_read.Goals as goal

pub returns : goal.returns
returns g c = runs.items_as_read
