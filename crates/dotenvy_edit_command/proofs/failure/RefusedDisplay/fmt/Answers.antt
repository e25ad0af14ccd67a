use Rattle.dotenvy_edit_command.proofs.FailureTexts.{value_told}
use Rattle.dotenvy_edit_command.proofs.failure.RefusedDisplay.fmt.Goals as goal

pub returns-in_default : goal.returns-in_default
returns-in_default g c =
    let refused = c.args.self.now in
    rw (
      c.in-Unportable.is,
      value_told refused.file.now refused.name.now refused.refusal.line c.in-Unportable.form c.in_default.not-Mark
          c.in_default.not-WhiteSpace c.in_default.not-Comment,
    )
    (record { writes = c.write-in_default.ensures.writes; styled = tt })
