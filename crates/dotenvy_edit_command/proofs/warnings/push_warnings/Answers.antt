use Rattle.std.proofs.Common.{string_bytes}
use Rattle.dotenvy_edit_command.proofs.SaidWarnings.{line_said}
use Rattle.dotenvy_edit_command.proofs.warnings.push_warnings.Goals as goal

pub warnings-preserved : goal.warnings-preserved
warnings-preserved g c =
    rw (c.in_ok-push_str.ensures.bytes, c.as_str.ensures.value)
    (line_said c.args.file.now c.args.name.now c.args.warnings.now c.warnings.warning-index c.warning-item.result
    (string_bytes c.warnings.text) (string_bytes c.in_ok-line.line) _ c.warnings-test.true
    (rw (← c.warning-item.is) c.in_ok-line.ensures.ok)
    c.warnings.invariant)
