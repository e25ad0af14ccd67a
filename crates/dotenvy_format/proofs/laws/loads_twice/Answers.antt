use Rattle.dotenvy_format.proofs.loads.LoadsTwice as loads
use Rattle.dotenvy_format.proofs.laws.loads_twice.Goals as goal

pub returns : goal.returns
returns c = loads.loads_twice
