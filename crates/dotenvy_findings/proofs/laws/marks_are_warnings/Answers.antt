use Rattle.dotenvy_findings.proofs.MarkKinds.{marks_are_warnings}
use Rattle.dotenvy_findings.proofs.laws.marks_are_warnings.Goals as goal

pub returns : goal.returns
returns c = marks_are_warnings
