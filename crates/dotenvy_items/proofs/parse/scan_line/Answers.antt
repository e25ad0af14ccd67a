use Rattle.std.proofs.Common.{◌∙◌, [], ap, length, refl, sym}
use Rattle.std.specs.Str.{chars}
use Rattle.dotenvy_items.specs.Meaning.{look_up_of}
use Rattle.dotenvy_format.specs.inside.ParseStatement.{parse}
use Rattle.dotenvy_format.proofs.statements.StatementParts.{chars-trim_end}
use Rattle.dotenvy_format.proofs.values.Values.{no_value}
use Rattle.dotenvy_format.proofs.values.ValuePlaces.{value_place}
use Rattle.dotenvy_items.proofs.LinePasses.{declared, left_of_statement, measured_value, says_nothing, some_bytes}
use Rattle.dotenvy_items.proofs.LinePasses.{statement_fault, value_fault}
use Rattle.dotenvy_items.proofs.parse.scan_line.Goals as goal

pub returns-then-is_empty_or_comment : goal.returns-then-is_empty_or_comment
returns-then-is_empty_or_comment g c =
    says_nothing c.args.line.now c.trim_end-trimmed.result.now c.skip_white.result.now _ c.utf8.line
    c.trim_end-trimmed.utf8 c.trim_end-trimmed.ensures.trim c.skip_white.ensures c.if-is_empty_or_comment.ensures

pub front_len-requires : goal.front_len-requires
front_len-requires g c =
    left_of_statement (chars c.trim_end-trimmed.result.now) (chars c.in-Err.left.now) (sym c.in-Err.ensures)

pub returns-in-Err : goal.returns-in-Err
returns-in-Err g c =
    let trimmed =
    chars-trim_end c.args.line.now c.trim_end-trimmed.result.now c.utf8.line c.trim_end-trimmed.ensures.trim in
    statement_fault c.args.dialect (chars c.args.line.now) (chars c.in-Err.left.now) c.front_len.result
    (says_nothing c.args.line.now c.trim_end-trimmed.result.now c.skip_white.result.now _ c.utf8.line
    c.trim_end-trimmed.utf8 c.trim_end-trimmed.ensures.trim c.skip_white.ensures c.if-is_empty_or_comment.ensures)
    (sym (ap parse trimmed) ∙ sym c.in-Err.ensures) (λ front is. c.front_len.ensures front (trimmed ∙ is))

pub returns-then-is_empty_or_comment-2 : goal.returns-then-is_empty_or_comment-2
returns-then-is_empty_or_comment-2 g c =
    let trimmed =
    chars-trim_end c.args.line.now c.trim_end-trimmed.result.now c.utf8.line c.trim_end-trimmed.ensures.trim in
    declared c.args.dialect (look_up_of c.args.names.now) (chars c.args.line.now) (chars c.in-Ok.statement.rest.now) [] _
    (says_nothing c.args.line.now c.trim_end-trimmed.result.now c.skip_white.result.now _ c.utf8.line
    c.trim_end-trimmed.utf8 c.trim_end-trimmed.ensures.trim c.skip_white.ensures c.if-is_empty_or_comment.ensures)
    (sym (ap parse trimmed) ∙ sym c.in-Ok.ensures) (sym c.if-is_empty_or_comment-2.ensures, refl)

pub fault_index-requires-clause-nonempty : goal.fault_index-requires-clause-nonempty
fault_index-requires-clause-nonempty g c =
    some_bytes c.in-Ok.statement.rest.now (sym c.if-is_empty_or_comment-2.ensures)

pub returns-in-Ok-measure : goal.returns-in-Ok-measure
returns-in-Ok-measure g c =
    let trimmed =
    chars-trim_end c.args.line.now c.trim_end-trimmed.result.now c.utf8.line c.trim_end-trimmed.ensures.trim in
    let names = look_up_of c.args.names.now in
    let m = measured_value c.args.dialect names c.in-Ok-measure.value c.in-Ok-measure.ensures.1 in
    declared c.args.dialect names (chars c.args.line.now) (chars c.in-Ok.statement.rest.now) m.0 _
    (says_nothing c.args.line.now c.trim_end-trimmed.result.now c.skip_white.result.now _ c.utf8.line
    c.trim_end-trimmed.utf8 c.trim_end-trimmed.ensures.trim c.skip_white.ensures c.if-is_empty_or_comment.ensures)
    (sym (ap parse trimmed) ∙ sym c.in-Ok.ensures) (
      rw (← c.if-is_empty_or_comment-2.ensures) refl,
      c.in-Ok-measure.ensures.0,
      rw c.in-Ok-measure.ensures.0 at m.1,
      m.2,
    )

pub returns-in-Err-measure : goal.returns-in-Err-measure
returns-in-Err-measure g c =
    let trimmed =
    chars-trim_end c.args.line.now c.trim_end-trimmed.result.now c.utf8.line c.trim_end-trimmed.ensures.trim in
    let text = c.in-Ok.statement.rest.now in
    let stops = c.in-Err-measure.ensures in
    value_fault c.args.dialect (look_up_of c.args.names.now) (chars c.args.line.now) (chars c.in-Ok.statement.key.now)
    (record { text = c.in-Ok.statement.rest; index = c.fault_index.result })
    (says_nothing c.args.line.now c.trim_end-trimmed.result.now c.skip_white.result.now _ c.utf8.line
    c.trim_end-trimmed.utf8 c.trim_end-trimmed.ensures.trim c.skip_white.ensures c.if-is_empty_or_comment.ensures)
    (sym (ap parse trimmed) ∙ sym c.in-Ok.ensures) (record {
      assigned = rw (← c.if-is_empty_or_comment-2.ensures) refl;
      none = no_value c.args.dialect (chars text) stops.reads;
      place = length stops.front;
      is_place = rw stops.counts at (value_place c.args.dialect (chars text));
      index_is = c.fault_index.ensures stops.front stops.spelled;
    })
