use Rattle.dotenvy_format.proofs.lines.EntriesOnce.{cut_line_texts}
use Rattle.dotenvy_format.proofs.laws.lines_are_cut.Goals as goal

pub returns : goal.returns
returns c = cut_line_texts
