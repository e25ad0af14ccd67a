use Rattle.env_layers.proofs.InOrder.{accepted_exactly}
use Rattle.env_layers.proofs.laws.accepted_exactly.Goals as goal

pub returns : goal.returns
returns g c = accepted_exactly c.loads_take_all.ensures
