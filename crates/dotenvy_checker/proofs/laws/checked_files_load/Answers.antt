use Rattle.dotenvy_checker.proofs.CheckedLoads.{checked_files_load}
use Rattle.dotenvy_checker.proofs.laws.checked_files_load.Goals as goal

pub returns : goal.returns
returns g c = checked_files_load
