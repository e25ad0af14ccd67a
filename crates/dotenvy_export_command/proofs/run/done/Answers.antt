use Rattle.std.proofs.Common.{inr}
use Rattle.dotenvy_export_command.proofs.run.done.Goals as goal

pub returns-in_ok-inputs-in-Export-clause-exports : goal.returns-in_ok-inputs-in-Export-clause-exports
returns-in_ok-inputs-in-Export-clause-exports g c = λ taken.
    let (are_taken, asked, files) = rw c.in-Export.is at c.in_ok-words.ensures in
    inr (
      c.in-Export.words.how,
      c.in-Export.words.ignores_environment,
      c.in_ok-inputs-in-Export.inputs,
      asked,
      c.in_ok-inputs-in-Export.ensures.alone,
      c.export.ensures,
    )
