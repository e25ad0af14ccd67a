use Rattle.dotenvy_format.proofs.loads.LoadsTwice.{items-agree}
use Rattle.dotenvy_format.proofs.laws.names_decide_items.Goals as goal

pub returns : goal.returns
returns c = items-agree
