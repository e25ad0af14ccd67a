use Rattle.dotenvy_checker.proofs.NumberedLines.{one_numbered_decision}
use Rattle.dotenvy_checker.proofs.laws.one_numbered_decision.Goals as goal

pub returns : goal.returns
returns c = one_numbered_decision
