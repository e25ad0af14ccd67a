use Rattle.dotenvy_editor.proofs.OneMarking as marking
use Rattle.dotenvy_editor.proofs.laws.one_marking.Goals as goal

pub returns : goal.returns
returns c = marking.one_marking
