use Rattle.dotenvy_items.proofs.RememberedNames.{recalls_names}
use Rattle.dotenvy_items.proofs.laws.recalls_names.Goals as goal

pub returns : goal.returns
returns c = recalls_names
