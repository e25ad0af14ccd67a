use Rattle.dotenvy_items.proofs.Iterations as runs
use Rattle.dotenvy_items.proofs.laws.items_go_on.Goals as goal

pub returns : goal.returns
returns g c = runs.items_go_on
