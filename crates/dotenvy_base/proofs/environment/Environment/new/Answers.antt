use Rattle.std.proofs.Common.{false}
use Rattle.dotenvy_base.proofs.TextMaps.{good-empty}
use Rattle.dotenvy_base.proofs.environment.Environment.new.Goals as goal

pub invariant_of-result : goal.invariant_of-result
invariant_of-result g c = rw c.new.ensures.empty (good-empty false)
