use Rattle.dotenvy_editor.proofs.WhiteSpaces.{before_found, before_none}
use Rattle.dotenvy_editor.proofs.portable.before_comment.Goals as goal

pub returns-in-Some : goal.returns-in-Some
returns-in-Some c = before_found c.args.text.now c.in-Some.before.now _ c.utf8.text c.in-Some.ensures.cases

pub returns-in-None : goal.returns-in-None
returns-in-None c = before_none c.args.text.now c.utf8.text c.in-None.ensures.cases
