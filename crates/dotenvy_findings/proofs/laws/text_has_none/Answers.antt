use Rattle.dotenvy_findings.proofs.TextWatches.{text_has_none}
use Rattle.dotenvy_findings.proofs.laws.text_has_none.Goals as goal

pub returns : goal.returns
returns c = text_has_none
