use Rattle.std.proofs.Common.{◌≡◌}
use Rattle.std.specs.FinMap as fin
use Rattle.std.specs.Option.{option_or, option_copied}
use Rattle.dotenvy_items.specs.Remembered.{remembered_of, recalled}
use Rattle.dotenvy_items.proofs.Meanings.{looked_up, unwrap_or-now}
use Rattle.dotenvy_items.proofs.meaning.Names.look_up.Goals as goal
use Rattle.dotenvy_items.proofs.meaning.Names.look_up.Goals.{in-Some, in-None}

pub returns : goal.returns
returns g c =
    let names = c.args.self.now.env.now.names in
    let remembered = remembered_of c.args.self.now.remembered.now.entries in
    let found : option_copied c.match-get.found
    ≡ option_or (fin.get names c.args.name.now) (recalled remembered c.args.name.now) =
    elim c.match-get.branch [
      | in-Some w ↦ rw (w.found-is, ← w.in-Some.ensures)
      | in-None w ↦ rw (w.found-is, ← w.in-None.ensures) w.recall-found.ensures
    ] in
    looked_up names remembered c.args.name.now c.unwrap_or.result.now c.utf8.name c.unwrap_or.utf8
    (rw (c.unwrap_or.ensures, unwrap_or-now, found))
