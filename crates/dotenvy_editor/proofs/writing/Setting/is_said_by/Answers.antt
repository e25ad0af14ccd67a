use Rattle.std.proofs.Common.{inl, inr}
use Rattle.std.specs.Str.{chars}
use Rattle.dotenvy_editor.proofs.SaidValues.{said_fault, said_if_means, said_if_same, said_nothing}
use Rattle.dotenvy_editor.proofs.writing.Setting.is_said_by.Goals as goal

pub returns-then-is_same : goal.returns-then-is_same
returns-then-is_same c =
    let said = c.in-Statement.ensures in
    said_if_means c.args.self.now (chars c.args.text.now) (chars c.in-Statement.statement.key.now)
    (chars c.in-Statement.statement.rest.now) said.1 c.is_same.result c.means.result said.0 c.is_same.ensures
    c.if-is_same.true c.means.ensures

pub returns-else-is_same : goal.returns-else-is_same
returns-else-is_same c =
    let said = c.in-Statement.ensures in
    said_if_same c.args.self.now (chars c.args.text.now) (chars c.in-Statement.statement.key.now)
    (chars c.in-Statement.statement.rest.now) said.1 c.is_same.result c.is_same.ensures c.if-is_same.false

pub returns-in-Nothing : goal.returns-in-Nothing
returns-in-Nothing c =
    elim c.in-Nothing.is [
      | inl is ↦ said_nothing c.args.self.now (chars c.args.text.now) (rw is at c.said_by.ensures)
      | inr is ↦
          let said = rw is at c.said_by.ensures in said_fault c.args.self.now (chars c.args.text.now) said.1
    ]
