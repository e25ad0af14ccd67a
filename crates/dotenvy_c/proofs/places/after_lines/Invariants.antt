use Rattle.dotenvy_editor.specs.TakenSlices.{SkipsLines}
use Rattle.dotenvy_c.proofs.places.after_lines.Given as goal

-- the rest comes after the lines so far
abbrev pub invariant-lines : goal.invariant-lines
invariant-lines l = SkipsLines l.file l._line l.rest
