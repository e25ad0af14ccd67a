use Rattle.dotenvy.specs.Loads.{load_result}
use Rattle.test_witnesses.proofs.WholeReadings.{loads_all}
use Rattle.test_witnesses.proofs.readings.load_of.Goals as goal

pub returns : goal.returns
returns c =
    loads_all load_result c.args.dialect c.args.source c.in_ok-with_dialect.field-0 c.args.env.now.names
    c.load.new.env.names c.load.result c.loads_take_all.ensures.0 c.in_ok-with_dialect.ensures.ok c.load.ensures.told
