use Rattle.dotenvy_reports.proofs.ReadBack.{json_reads_back}
use Rattle.dotenvy_reports.proofs.laws.json_reads_back.Goals as goal

pub returns : goal.returns
returns c = json_reads_back
