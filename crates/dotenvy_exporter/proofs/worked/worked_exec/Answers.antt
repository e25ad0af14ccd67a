use Rattle.dotenvy_exporter.proofs.WorkedFiles.{exec}
use Rattle.dotenvy_exporter.proofs.worked.worked_exec.Goals as goal

pub returns : goal.returns
returns c = exec
