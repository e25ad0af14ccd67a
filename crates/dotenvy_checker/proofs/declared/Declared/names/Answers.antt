use Rattle.std.proofs.Common.{◌∙◌, ap}
use Rattle.dotenvy_words.specs.Found.{texts}
use Rattle.dotenvy_checker.specs.Folders.{is_among}
use Rattle.dotenvy_checker.proofs.NamesAmong.{among_keys}
use Rattle.dotenvy_checker.proofs.declared.Declared.names.Goals as goal

pub returns : goal.returns
returns g c = λ name.
    ap (λ names. is_among (texts names) name) c.keys.ensures.rest
    ∙ among_keys name c.args.self.now.lines.entries
