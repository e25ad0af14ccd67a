use Rattle.dotenvy_base.proofs.TextMaps.{good-pairs}
use Rattle.dotenvy_base.proofs.environment.Environment.from_process.Goals as goal

pub returns-clause-good : goal.returns-clause-good
returns-clause-good g c = good-pairs c.in_ok-text_entries.field-0.items c.from_pairs.result c.from_pairs.ensures.names
