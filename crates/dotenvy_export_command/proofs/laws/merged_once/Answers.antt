use Rattle.dotenvy_export_command.proofs.MergedFiles.{merged_once}
use Rattle.dotenvy_export_command.proofs.laws.merged_once.Goals as goal

pub returns : goal.returns
returns c = merged_once
