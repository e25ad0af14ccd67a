use Rattle.dotenvy_exporter.proofs.WorkedFiles.{docker}
use Rattle.dotenvy_exporter.proofs.worked.worked_docker.Goals as goal

pub returns : goal.returns
returns c = docker
