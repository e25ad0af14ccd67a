use Rattle.std.specs.Str.{chars}
use Rattle.dotenvy_editor.specs.inside.Changing.{dialect_of}
use Rattle.dotenvy_editor.proofs.OpenEnds.{read_open}
use Rattle.dotenvy_editor.proofs.ToldLines.{broken_told, open_told}
use Rattle.dotenvy_editor.proofs.editing.Editing.read.Goals as goal
use Rattle.dotenvy_editor.proofs.editing.Editing.read.Goals.{in-Broken, in-Open}

pub open_reason-requires : goal.open_reason-requires
open_reason-requires g c = read_open c.args.slice (chars c.args.text.now) c.in-Open.is c.requires

pub returns-clause-told : goal.returns-clause-told
returns-clause-told g c = λ line is names are.
    let dialect = dialect_of c.args.self.now.change in
    elim c.match-slice.branch [
      | in-Open w ↦
          open_told dialect c.args.slice (chars c.args.text.now) line w.in-Open.is is c.stops_at.ensures are
      | in-Broken w ↦
          broken_told dialect c.args.slice (chars c.args.text.now) line w.in-Broken.is is c.stops_at.ensures are
    ]
