use Rattle.dotenvy_format.proofs.bytes.Slices.{begins_shorter}
use Rattle.dotenvy_editor.proofs.forms.push_escaped.Goals as goal

pub characters-smaller : goal.characters-smaller
characters-smaller g c = begins_shorter c.in-Some.ensures
