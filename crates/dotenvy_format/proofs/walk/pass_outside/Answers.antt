use Rattle.dotenvy_format.specs.declared.text.Class.TheVariants.{Token}
use Rattle.dotenvy_format.proofs.lines.LineTexts.{run_passes, token_stays}
use Rattle.dotenvy_format.proofs.walk.pass_outside.Goals as goal

pub returns-in_default : goal.returns-in_default
returns-in_default c =
    let run = c.split_while.ensures in
    run_passes Token run.bytes run.texts.0 run.texts.1 token_stays run.span
