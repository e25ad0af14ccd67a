use Rattle.dotenvy_checker.proofs.RequiredNames.{schema_is_met}
use Rattle.dotenvy_checker.proofs.laws.schema_is_met.Goals as goal

pub returns : goal.returns
returns g c = schema_is_met
