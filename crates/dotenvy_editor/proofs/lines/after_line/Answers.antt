use Rattle.std.proofs.Common.{◌+◌, length}
use Rattle.std.specs.Prelude.{Some, None}
use Rattle.std.proofs.Math.Seq.{drop-length}
use Rattle.dotenvy_editor.proofs.LineSlices.{first_line, slice_end}
use Rattle.dotenvy_editor.proofs.lines.after_line.Goals as goal

pub returns-in-Some : goal.returns-in-Some
returns-in-Some c =
    rw (slice_end (c.in-Some.place + 1) c.args.bytes.now)
    (first_line c.args.bytes.now (Some c.in-Some.place) c.in-Some.ensures)

pub returns-in-None : goal.returns-in-None
returns-in-None c =
    rw (slice_end (length c.args.bytes.now) c.args.bytes.now, drop-length c.args.bytes.now)
    (first_line c.args.bytes.now None c.in-None.ensures)
