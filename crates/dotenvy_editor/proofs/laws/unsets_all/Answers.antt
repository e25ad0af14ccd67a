use Rattle.dotenvy_editor.proofs.EditedEntries as edited
use Rattle.dotenvy_editor.proofs.laws.unsets_all.Goals as goal

pub returns : goal.returns
returns c = edited.unsets_all
