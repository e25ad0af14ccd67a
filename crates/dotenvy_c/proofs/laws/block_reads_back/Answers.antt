use Rattle.dotenvy_c.proofs.ReadBack.{block_reads_back}
use Rattle.dotenvy_c.proofs.laws.block_reads_back.Goals as goal

pub returns : goal.returns
returns c = block_reads_back
