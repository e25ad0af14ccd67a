use Rattle.std.proofs.Common.{rules}
use Rattle.dotenvy_base.proofs.TextMaps.{get-strings}
use Rattle.dotenvy_base.proofs.environment.Environment.get.Goals as goal

pub returns-in-Some : goal.returns-in-Some
returns-in-Some g c = rw (← c.self.view_is, get-strings, ← c.get.ensures.value) (search rules)

pub returns-in-None : goal.returns-in-None
returns-in-None g c = rw (← c.self.view_is, get-strings, ← c.get.ensures.value) (search rules)
