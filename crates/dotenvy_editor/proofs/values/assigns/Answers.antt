use Rattle.std.specs.Str.{chars}
use Rattle.dotenvy_editor.proofs.SaidLines.{fault_states, nothing_states, states_key}
use Rattle.dotenvy_editor.proofs.values.assigns.Goals as goal

pub returns-in-Statement : goal.returns-in-Statement
returns-in-Statement c =
    states_key (chars c.args.text.now) (chars c.in-Statement.statement.key.now) (chars c.args.key.now)
    (chars c.in-Statement.statement.rest.now) c.is_same.result c.in-Statement.ensures.0 c.in-Statement.ensures.1
    c.is_same.ensures

pub returns-in-Nothing : goal.returns-in-Nothing
returns-in-Nothing c = nothing_states (chars c.args.text.now) (chars c.args.key.now) c.in-Nothing.ensures

pub returns-in-Fault : goal.returns-in-Fault
returns-in-Fault c = fault_states (chars c.args.text.now) (chars c.args.key.now) c.in-Fault.ensures.1
