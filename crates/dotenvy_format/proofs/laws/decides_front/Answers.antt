use Rattle.dotenvy_format.proofs.lines.DecidedFront as front
use Rattle.dotenvy_format.proofs.laws.decides_front.Goals as goal

pub returns : goal.returns
returns c = front.decides_front
