use Rattle.dotenvy_exporter.proofs.WorkedFiles.{kubernetes}
use Rattle.dotenvy_exporter.proofs.worked.worked_kubernetes.Goals as goal

pub returns : goal.returns
returns c = kubernetes
