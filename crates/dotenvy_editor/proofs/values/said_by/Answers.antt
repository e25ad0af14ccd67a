use Rattle.std.proofs.Common.{ap, sym}
use Rattle.std.specs.Prelude.{not}
use Rattle.dotenvy_editor.proofs.SaidLines.{line_fault, line_nothing, line_statement}
use Rattle.dotenvy_editor.proofs.values.said_by.Goals as goal

pub returns-then-is_empty_or_comment : goal.returns-then-is_empty_or_comment
returns-then-is_empty_or_comment c =
    line_nothing c.args.text.now c.trim_end-trimmed.result.now c.trim_start.result.now _ c.utf8.text
    c.trim_end-trimmed.utf8 c.trim_end-trimmed.ensures.trim c.trim_start.ensures.trim c.if-is_empty_or_comment.ensures

pub returns-in-Ok : goal.returns-in-Ok
returns-in-Ok c = (
  ap not
      (line_nothing c.args.text.now c.trim_end-trimmed.result.now c.trim_start.result.now _ c.utf8.text
      c.trim_end-trimmed.utf8 c.trim_end-trimmed.ensures.trim c.trim_start.ensures.trim
      c.if-is_empty_or_comment.ensures),
  line_statement c.args.text.now c.trim_end-trimmed.result.now c.utf8.text c.trim_end-trimmed.ensures.trim
      (sym c.in-Ok.ensures),
)

pub returns-in-Err : goal.returns-in-Err
returns-in-Err c = (
  ap not
      (line_nothing c.args.text.now c.trim_end-trimmed.result.now c.trim_start.result.now _ c.utf8.text
      c.trim_end-trimmed.utf8 c.trim_end-trimmed.ensures.trim c.trim_start.ensures.trim
      c.if-is_empty_or_comment.ensures),
  line_fault c.args.text.now c.trim_end-trimmed.result.now c.utf8.text c.trim_end-trimmed.ensures.trim
      (sym c.in-Err.ensures),
)
