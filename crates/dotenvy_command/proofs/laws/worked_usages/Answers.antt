use Rattle.dotenvy_command.proofs.WorkedWords as rows
use Rattle.dotenvy_command.proofs.laws.worked_usages.Goals as goal

pub returns : goal.returns
returns c = rows.usages
