use Rattle.dotenvy_editor.proofs.EditedEntries as edited
use Rattle.dotenvy_editor.proofs.laws.sets_one_entry.Goals as goal

pub returns : goal.returns
returns c = edited.sets_one_entry
