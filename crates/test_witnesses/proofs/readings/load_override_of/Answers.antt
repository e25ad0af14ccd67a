use Rattle.dotenvy.specs.Loads.{override_result}
use Rattle.test_witnesses.proofs.WholeReadings.{loads_all}
use Rattle.test_witnesses.proofs.readings.load_override_of.Goals as goal

pub returns : goal.returns
returns c =
    loads_all override_result c.args.dialect c.args.source c.in_ok-with_dialect.field-0 c.args.env.now.names
    c.load_override.new.env.names c.load_override.result c.loads_take_all.ensures.1 c.in_ok-with_dialect.ensures.ok
    c.load_override.ensures.told
