use Rattle.std.proofs.Common.{inl, inr}
use Rattle.std.specs.Prelude.{option_map, string_bytes}
use Rattle.std.specs.Str.{chars}
use Rattle.std.proofs.lemmas.Result.{IfOk-weaker}
use Rattle.dotenvy_editor.proofs.VerbatimLines.{nothing_found, statement_found, unstated_found}
use Rattle.dotenvy_editor.proofs.verbatim.said_verbatim.Goals as goal

pub returns-in-Statement : goal.returns-in-Statement
returns-in-Statement g c =
    let said = c.in-Statement.ensures in
    IfOk-weaker _ _ _ (λ found. statement_found c.args.dialect (chars c.args.text.now)
    (chars c.in-Statement.statement.key.now) (chars c.in-Statement.statement.rest.now)
    (option_map string_bytes found) said.0 said.1) c.assigned_verbatim.ensures

pub returns-in-Nothing : goal.returns-in-Nothing
returns-in-Nothing g c =
    elim c.in-Nothing.is [
      | inl is ↦ nothing_found c.args.dialect (chars c.args.text.now) (rw is at c.said_by.ensures)
      | inr is ↦ unstated_found c.args.dialect (chars c.args.text.now) (rw is at c.said_by.ensures).1
    ]
