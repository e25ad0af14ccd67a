use Rattle.dotenvy_checker.proofs.Untold.{text_if_told}
use Rattle.dotenvy_checker.proofs.laws.text_if_told.Goals as goal

pub returns : goal.returns
returns c = text_if_told
