use Rattle.dotenvy_format.proofs.loads.LoadLaws.{run-replace}
use Rattle.dotenvy_items.proofs.StoppedLoads.{loads_by, same_rule, stops_by}
use Rattle.dotenvy_items.proofs.iter.Iter.load_rest_override.Goals as goal

pub returns-clause-told : goal.returns-clause-told
returns-clause-told g c = λ opened.
    loads_by c.args.self.now c.args.env.now.names (same_rule run-replace) (c.load_lines.ensures.told opened)

pub returns-clause-stops : goal.returns-clause-stops
returns-clause-stops g c = λ opened.
    stops_by c.args.self.now _ c.args.env.now.names _ (same_rule run-replace) (c.load_lines.ensures.stops opened)
