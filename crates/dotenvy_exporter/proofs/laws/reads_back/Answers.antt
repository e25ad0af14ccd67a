use Rattle.dotenvy_exporter.proofs.ReadsBack.{reads_back}
use Rattle.dotenvy_exporter.proofs.laws.reads_back.Goals as goal

pub returns : goal.returns
returns c = reads_back
