use Rattle.dotenvy_editor.proofs.WholeStays as whole
use Rattle.dotenvy_editor.proofs.laws.whole_stays.Goals as goal

pub returns : goal.returns
returns c = whole.whole_stays
