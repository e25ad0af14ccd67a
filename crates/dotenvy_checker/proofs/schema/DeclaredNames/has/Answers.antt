use Rattle.std.proofs.Common.{◌∙◌, sym}
use Rattle.dotenvy_checker.proofs.NamesAmong.{among_set}
use Rattle.dotenvy_checker.proofs.schema.DeclaredNames.has.Goals as goal

pub returns : goal.returns
returns g c = c.contains.ensures ∙ sym (among_set c.args.name.now c.args.self.now.names.keys)
