use Rattle.std.proofs.Common.{rules}
use Rattle.dotenvy_items.proofs.StoppedLoads.{stops_as}
use Rattle.dotenvy_items.proofs.iter.Iter.load_lines.Goals as goal

pub returns-in-Err-clause-stops : goal.returns-in-Err-clause-stops
returns-in-Err-clause-stops g c = λ is_open.
    stops_as _ _ _ c.in-Err.is (search rules) (rw c.in-Err.is at (c.load_each_line-loaded.ensures.loads.stops is_open))
