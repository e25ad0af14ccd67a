use Rattle.dotenvy_format.specs.declared.text.Class.TheVariants.{Quoted}
use Rattle.dotenvy_format.proofs.lines.LineTexts.{run_passes, quoted_stays}
use Rattle.dotenvy_format.proofs.walk.pass_run.Goals as goal

pub returns-in_default-Inside : goal.returns-in_default-Inside
returns-in_default-Inside c =
    let run = c.split_while.ensures in
    rw c.in_default-Inside.is-1 (run_passes (Quoted c.in_default-Inside.quote) run.bytes run.texts.0 run.texts.1
    (quoted_stays _) run.span)
