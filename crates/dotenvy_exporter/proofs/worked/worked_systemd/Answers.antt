use Rattle.dotenvy_exporter.proofs.WorkedFiles.{systemd}
use Rattle.dotenvy_exporter.proofs.worked.worked_systemd.Goals as goal

pub returns : goal.returns
returns c = systemd
