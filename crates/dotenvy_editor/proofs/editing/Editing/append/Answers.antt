use Rattle.dotenvy_editor.proofs.NewLines.{last_is_end}
use Rattle.dotenvy_editor.proofs.editing.Editing.append.Goals as goal

pub new_line-requires-clause-end : goal.new_line-requires-clause-end
new_line-requires-clause-end g c = rw c.last_end-end.ensures (last_is_end c.args.body.now)
