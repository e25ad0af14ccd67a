use Rattle.dotenvy_editor.proofs.EditedNames as names
use Rattle.dotenvy_editor.proofs.laws.renames_each.Goals as goal

pub returns : goal.returns
returns c = names.renames_each
