use Rattle.dotenvy_editor.proofs.SlicesAlone as slices
use Rattle.dotenvy_editor.proofs.laws.stands_alone.Goals as goal

pub returns : goal.returns
returns c = slices.stands_alone
