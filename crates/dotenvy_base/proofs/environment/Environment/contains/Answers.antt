use Rattle.std.proofs.Common.{rules}
use Rattle.dotenvy_base.proofs.TextMaps.{get-strings}
use Rattle.dotenvy_base.proofs.environment.Environment.contains.Goals as goal

pub returns : goal.returns
returns g c = rw (← c.self.view_is, get-strings, c.contains_key.ensures) (search rules)
