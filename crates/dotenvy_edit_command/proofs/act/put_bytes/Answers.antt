use Rattle.dotenvy_edit_command.proofs.TaskSteps.{puts_some}
use Rattle.dotenvy_edit_command.proofs.act.put_bytes.Goals as goal

pub returns-in-Some : goal.returns-in-Some
returns-in-Some g c =
    let replaced = rw c.as_slice.ensures.value at c.replace.ensures in
    rw c.in-Some.is
    (puts_some g.F.Replaceable.known c.in-Some.bytes c.args.new.now c.args.file.now c.replace.new.file c.replace.result
    replaced.same replaced.replaces)
