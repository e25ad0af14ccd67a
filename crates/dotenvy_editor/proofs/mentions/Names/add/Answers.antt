use Rattle.dotenvy_editor.proofs.NameSets.{names_added}
use Rattle.dotenvy_editor.proofs.mentions.Names.add.Goals as goal

pub returns : goal.returns
returns g c =
    λ names are.
    names_added c.self.inside.names c.insert.new.self c.in_ok-from_str.field-0 c.args.name.now names
    c.in_ok-from_str.ensures.ok c.utf8.name c.in_ok-insert.ensures.updates (rw (← c.self.view_is) at are)
