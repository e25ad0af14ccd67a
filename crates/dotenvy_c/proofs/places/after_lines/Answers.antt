use Rattle.dotenvy_editor.proofs.LineSlices.{skips_then}
use Rattle.dotenvy_c.proofs.places.after_lines.Goals as goal

pub lines-preserved : goal.lines-preserved
lines-preserved c = skips_then c.lines.invariant c.after_line-rest.ensures
