use Rattle.dotenvy_findings.proofs.FaultKinds.{open_fault_is_fault}
use Rattle.dotenvy_findings.proofs.laws.open_faults_are_errors.Goals as goal

pub returns : goal.returns
returns c = open_fault_is_fault
