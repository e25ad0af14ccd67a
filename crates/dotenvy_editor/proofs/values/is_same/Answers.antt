use Rattle.std.proofs.Common.{◌∙◌}
use Rattle.dotenvy_editor.proofs.SaidLines.{same_chars}
use Rattle.dotenvy_editor.proofs.values.is_same.Goals as goal

pub returns : goal.returns
returns c = c.eq.ensures ∙ same_chars c.args.text.now c.args.other.now c.utf8.text c.utf8.other
