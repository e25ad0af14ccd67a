use Rattle.dotenvy_format.proofs.loads.LoadsTwice as loads
use Rattle.dotenvy_format.proofs.laws.load_keeps.Goals as goal

pub returns : goal.returns
returns c = loads.load_keeps
