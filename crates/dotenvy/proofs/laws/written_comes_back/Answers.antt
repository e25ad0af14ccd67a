use Rattle.dotenvy.proofs.WrittenPairs as written
use Rattle.dotenvy.proofs.laws.written_comes_back.Goals as goal

pub returns : goal.returns
returns g c = written.written_comes_back
