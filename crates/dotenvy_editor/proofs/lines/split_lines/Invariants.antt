use Rattle.std.specs.Prelude.{◌+◌, ◌-◌}
use Rattle.dotenvy_editor.specs.TakenSlices.{SkipsLines}
use Rattle.dotenvy_editor.proofs.lines.split_lines.Given as goal

-- the rest comes after the lines up to this one
abbrev pub invariant-lines : goal.invariant-lines
invariant-lines l = SkipsLines l.bytes (l._line - l.first + 1) l.rest
