use Rattle.std.proofs.Common.{rules}
use Rattle.dotenvy_findings.proofs.PlacedWatches.{text_moves}
use Rattle.dotenvy_findings.proofs.laws.text_moves_place.Goals as goal

pub returns : goal.returns
returns c = λ watch text free utf8. text_moves watch text (search (rules, free)) utf8
