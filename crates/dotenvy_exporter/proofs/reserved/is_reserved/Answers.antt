use Rattle.dotenvy_exporter.specs.Reserved.{reserved_names}
use Rattle.dotenvy_exporter.proofs.reserved.is_reserved.Goals as goal

pub returns : goal.returns
unfolding reserved_names
returns c = c.is_one_of.ensures
