use Rattle.dotenvy_exporter.proofs.WorkedFiles.{shell}
use Rattle.dotenvy_exporter.proofs.worked.worked_shell.Goals as goal

pub returns : goal.returns
returns c = shell
