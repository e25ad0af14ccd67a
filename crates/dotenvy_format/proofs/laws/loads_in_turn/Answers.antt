use Rattle.dotenvy_format.proofs.loads.LoadLaws.{run-keep, run-replace}
use Rattle.dotenvy_format.proofs.laws.loads_in_turn.Goals as goal

pub returns : goal.returns
returns c = λ env remembered entries. (run-keep env remembered entries, run-replace env remembered entries)
