use Rattle.dotenvy_format.proofs.loads.LoadsTwice as loads
use Rattle.dotenvy_format.proofs.laws.overrides_declared.Goals as goal

pub returns : goal.returns
returns c = loads.overrides_declared
