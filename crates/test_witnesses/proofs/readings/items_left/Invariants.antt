use Rattle.dotenvy.specs.Iter.{items_measure}
use Rattle.test_witnesses.proofs.Taken.{HasTaken}
use Rattle.test_witnesses.proofs.readings.items_left.Given as goal

-- these items were taken so far
abbrev pub invariant-items : goal.invariant-items
invariant-items g l = HasTaken l.env.names l.fn.file l.file l.given.items

-- each item that is taken leaves less
abbrev pub decreases-items : goal.decreases-items
decreases-items g l = items_measure l.file
