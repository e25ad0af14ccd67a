use Rattle.dotenvy.specs.Iter.{items_measure}
use Rattle.test_replay.proofs.rest.Rest.play.Given as goal

abbrev pub decreases-calls : goal.decreases-calls
decreases-calls l = items_measure l.file
