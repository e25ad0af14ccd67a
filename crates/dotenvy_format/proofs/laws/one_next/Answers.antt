use Rattle.dotenvy_format.proofs.lines.NextLine.{one_next}
use Rattle.dotenvy_format.proofs.lines.SplitLines.{next_of, next_of-is}
use Rattle.dotenvy_format.proofs.laws.one_next.Goals as goal

pub returns : goal.returns
returns c =
    λ lines some cut.
    let next = next_of lines in
    let is = next_of-is lines some cut in
    (next.0, next.1, is, λ j other is_next. one_next lines j next.0 other next.1 some cut is_next is)
