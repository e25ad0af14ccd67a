use Rattle.dotenvy_checker.proofs.FoundFaults.{faults_stop_loads}
use Rattle.dotenvy_checker.proofs.laws.faults_stop_loads.Goals as goal

pub returns : goal.returns
returns c = faults_stop_loads
