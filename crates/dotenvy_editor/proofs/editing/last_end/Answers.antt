use Rattle.std.proofs.Common.{◌∙◌, refl, sym}
use Rattle.dotenvy_editor.proofs.LastEnds.{last_end_at, last_end_none}
use Rattle.dotenvy_editor.proofs.editing.last_end.Goals as goal
use Rattle.dotenvy_editor.proofs.editing.last_end.Goals.{in_default-via-in-Some+else-ends_in, in_default-via-in_default}

pub returns-in-Some : goal.returns-in-Some
returns-in-Some c =
    sym (last_end_at c.args.bytes.now c.in-Some.place (rw c.in-Some.is at c.memrchr.ensures)
    ∙ rw (sym c.ends_in.ensures ∙ c.if-ends_in.true) refl)

pub returns-in_default : goal.returns-in_default
returns-in_default c =
    elim c.in_default.branch [
      | in_default-via-in-Some+else-ends_in w ↦
          sym (last_end_at c.args.bytes.now w.in-Some.place (rw w.in-Some.is at c.memrchr.ensures)
          ∙ rw (sym w.ends_in.ensures ∙ w.if-ends_in.false) refl)
      | in_default-via-in_default w ↦
          sym (last_end_none c.args.bytes.now (rw w.in_default.is at c.memrchr.ensures))
    ]
