use Rattle.dotenvy_format.proofs.values.LongestFronts.{places_are_longest}
use Rattle.dotenvy_format.proofs.laws.places_are_longest.Goals as goal

pub returns : goal.returns
returns c = places_are_longest
