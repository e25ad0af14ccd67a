use Rattle.std.proofs.Common.{length}
use Rattle.dotenvy_editor.specs.inside.Changed.{ChangesSoFar}
use Rattle.dotenvy_editor.specs.inside.Changing.{key_of}
use Rattle.dotenvy_editor.specs.inside.Telling.{IsUntold}
use Rattle.dotenvy_editor.proofs.ToldEdits.{TellsSoFar}
use Rattle.dotenvy_editor.proofs.editing.Editing.edit_lines.Given as goal

-- some lines were read, noted and changed, and told
abbrev pub invariant-lines : goal.invariant-lines
invariant-lines g l =
    ChangesSoFar l.body l.lines l.fn.self l.self
    × (IsUntold (key_of l.fn.self.change) l.fn.self.telling → TellsSoFar l.body l.lines l.fn.self l.self)

abbrev pub decreases-lines : goal.decreases-lines
decreases-lines g l = length l.lines.left
