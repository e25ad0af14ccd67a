use Rattle.std.proofs.Common.{◌∙◌}
use Rattle.dotenvy_editor.proofs.LastEnds.{ends_with_one}
use Rattle.dotenvy_editor.proofs.editing.ends_in.Goals as goal

pub returns : goal.returns
returns c = c.ends_with.ensures.value ∙ ends_with_one c.args.byte c.args.bytes.now
