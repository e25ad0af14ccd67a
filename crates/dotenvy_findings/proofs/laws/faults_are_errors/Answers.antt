use Rattle.dotenvy_findings.proofs.FaultKinds.{closed_fault_is_fault}
use Rattle.dotenvy_findings.proofs.laws.faults_are_errors.Goals as goal

pub returns : goal.returns
returns c = closed_fault_is_fault
