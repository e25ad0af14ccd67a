use Rattle.dotenvy_items.proofs.Iterations as runs
use Rattle.dotenvy_items.proofs.laws.items_in_order.Goals as goal

pub returns : goal.returns
returns g c = runs.items_in_order
