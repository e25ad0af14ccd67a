use Rattle.dotenvy_editor.proofs.TextTests.{contains_has}
use Rattle.dotenvy_editor.proofs.forms.has.Goals as goal

pub returns : goal.returns
returns c = contains_has c.args.c c.args.value.now c.contains.result c.utf8.value c.requires c.contains.ensures.cases
