use Rattle.std.proofs.Common.{◌∙◌, ℕ, List, ap}
use Rattle.std.specs.Str.{chars}
use Rattle.dotenvy_editor.specs.Warnings.{is_among}
use Rattle.dotenvy_editor.proofs.NameSets.{text_among}
use Rattle.dotenvy_editor.proofs.mentions.Names.has.Goals as goal

pub returns : goal.returns
returns g c =
    c.contains.ensures ∙ text_among c.args.name.now c.self.inside.names.keys c.utf8.name
    ∙ ap (λ (names : List (List ℕ)). is_among names (chars c.args.name.now)) c.self.view_is
