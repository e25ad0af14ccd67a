use Rattle.dotenvy_checker.proofs.FindingsOnce.{findings_once}
use Rattle.dotenvy_checker.proofs.laws.findings_once.Goals as goal

pub returns : goal.returns
returns c = findings_once
