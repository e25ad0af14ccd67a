use Rattle.dotenvy_editor.specs.Assignments.{spot_text}
use Rattle.dotenvy_editor.specs.inside.Tried.{texts_of}
use Rattle.dotenvy_editor.proofs.TriedLines.{tried_found, tried_none}
use Rattle.dotenvy_editor.proofs.writing.Setting.tried.Goals as goal

pub returns-then-is_written : goal.returns-then-is_written
returns-then-is_written g c =
    tried_found c.args.self.now (spot_text (texts_of c.args.spot)) _ _ c.in_ok-line.ensures
    (rw c.as_bytes.ensures.value at c.in_ok-is_written.ensures) c.if-is_written.true

pub returns-else-is_written : goal.returns-else-is_written
returns-else-is_written g c =
    tried_none c.args.self.now (spot_text (texts_of c.args.spot)) _ _ c.in_ok-line.ensures
    (rw c.as_bytes.ensures.value at c.in_ok-is_written.ensures) c.if-is_written.false
