use Rattle.dotenvy_format.proofs.lines.EntriesOnce.{reads_back_once}
use Rattle.dotenvy_format.proofs.laws.reads_back.Goals as goal

pub returns : goal.returns
returns c = reads_back_once
