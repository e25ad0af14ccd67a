use Rattle.dotenvy_findings.proofs.CleanWatches.{others_have_one}
use Rattle.dotenvy_findings.proofs.laws.others_have_one.Goals as goal

pub returns : goal.returns
returns c = others_have_one
