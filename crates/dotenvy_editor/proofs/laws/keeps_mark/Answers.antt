use Rattle.dotenvy_editor.proofs.EditedEntries as edited
use Rattle.dotenvy_editor.proofs.EditedNames as names
use Rattle.dotenvy_editor.proofs.laws.keeps_mark.Goals as goal

pub returns : goal.returns
returns c = (edited.set_mark, edited.unset_mark, names.rename_mark)
