use Rattle.dotenvy_exporter.proofs.ReadsNoOther.{reads_no_other}
use Rattle.dotenvy_exporter.proofs.laws.reads_no_other.Goals as goal

pub returns : goal.returns
returns c = reads_no_other
