use Rattle.dotenvy_items.proofs.ListedLoads as listed
use Rattle.dotenvy_items.proofs.laws.lists_by_rule.Goals as goal

pub returns : goal.returns
returns g c = listed.lists_by_rule
