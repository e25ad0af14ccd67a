use Rattle.test_witnesses.proofs.WholeReadings.{all_items}
use Rattle.test_witnesses.proofs.readings.items_of.Goals as goal

pub returns-clause-all : goal.returns-clause-all
returns-clause-all c =
    all_items c.args.dialect c.args.source c.in_ok-file.file c.args.env.now.names c.in_ok-given.given.items
    c.items_in_order.ensures c.in_ok-file.ensures.ok c.in_ok-given.ensures.gives
