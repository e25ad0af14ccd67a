use Rattle.dotenvy_findings.proofs.Watches.{parts_join}
use Rattle.dotenvy_findings.proofs.laws.parts_join.Goals as goal

pub returns : goal.returns
returns c = parts_join
