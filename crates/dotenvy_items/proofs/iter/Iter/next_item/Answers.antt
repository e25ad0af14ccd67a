use Rattle.std.proofs.Common.{Some, rules}
use Rattle.dotenvy_items.proofs.KeyLookUps.{names_of_keys}
use Rattle.dotenvy_items.proofs.NextItems.{seen_item}
use Rattle.dotenvy_items.proofs.iter.Iter.next_item.Goals as goal

pub returns-in_default-clause-next : goal.returns-in_default-clause-next
returns-in_default-clause-next g c =
    seen_item c.args.env.now.names c.self.inside.reading c.next.new.self c.self.inside.item_lines c.self.view_is
    (search rules) c.in_default.ensures.next

pub returns-clause-next : goal.returns-clause-next
returns-clause-next g c =
    seen_item c.args.env.now.names c.self.inside.reading c.next.new.self c.self.inside.item_lines c.self.view_is
    (search rules) c.in-Some.ensures.next

pub returns-clause-name : goal.returns-clause-name
returns-clause-name g c = names_of_keys (Some c.in-Some.item) c.in-Some.ensures.key
