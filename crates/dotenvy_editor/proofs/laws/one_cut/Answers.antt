use Rattle.dotenvy_editor.proofs.OneCut as cut
use Rattle.dotenvy_editor.proofs.laws.one_cut.Goals as goal

pub returns : goal.returns
returns c = cut.one_cut
