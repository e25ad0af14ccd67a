use Rattle.dotenvy_checker.proofs.NumberedLines.{one_numbering}
use Rattle.dotenvy_checker.proofs.laws.one_numbering.Goals as goal

pub returns : goal.returns
returns c = one_numbering
