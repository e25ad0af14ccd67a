use Rattle.dotenvy_editor.proofs.TextTests.{ends_with_last}
use Rattle.dotenvy_editor.proofs.forms.ends_in.Goals as goal

pub returns : goal.returns
returns c = ends_with_last c.args.c c.args.text.now c.ends_with.result c.utf8.text c.ends_with.ensures.cases
