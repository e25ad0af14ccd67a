use Rattle.dotenvy_c.proofs.SaidItems.{tells_all_items}
use Rattle.dotenvy_c.proofs.laws.items_are_told.Goals as goal

pub returns : goal.returns
returns c = tells_all_items
