use Rattle.dotenvy_exporter.proofs.WorkedFiles.{json}
use Rattle.dotenvy_exporter.proofs.worked.worked_json.Goals as goal

pub returns : goal.returns
returns c = json
