use Rattle.env_layers.proofs.InOrder.{layers_in_order}
use Rattle.env_layers.proofs.laws.layers_in_order.Goals as goal

pub returns : goal.returns
returns g c = layers_in_order c.one_reading.ensures c.loads_take_all.ensures
