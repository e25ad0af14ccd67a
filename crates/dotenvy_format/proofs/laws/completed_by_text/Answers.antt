use Rattle.dotenvy_format.proofs.values.LongestFronts.{completed_by_text}
use Rattle.dotenvy_format.proofs.laws.completed_by_text.Goals as goal

pub returns : goal.returns
returns c = completed_by_text
