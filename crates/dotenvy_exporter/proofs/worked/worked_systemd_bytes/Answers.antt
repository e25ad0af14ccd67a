use Rattle.dotenvy_exporter.proofs.WorkedFiles.{systemd_bytes}
use Rattle.dotenvy_exporter.proofs.worked.worked_systemd_bytes.Goals as goal

pub returns : goal.returns
returns c = systemd_bytes
