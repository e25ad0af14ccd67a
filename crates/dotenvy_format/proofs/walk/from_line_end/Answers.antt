use Rattle.std.proofs.Common.{◌∙◌, arith}
use Rattle.dotenvy_format.proofs.lines.LineEnds.{calm_passed, ended_at, none_ends, span_shorter, span_stops}
use Rattle.dotenvy_format.proofs.walk.from_line_end.Goals as goal

pub returns-in_err-first : goal.returns-in_err-first
returns-in_err-first c =
    rw c.from_residual.ensures (c.parts.invariant ∙ calm_passed c.parts.blanks c.split_run.ensures
    ∙ none_ends _ c.split_run.result.1.now c.in_err-first.ensures.cases)

pub after_part-requires : goal.after_part-requires
after_part-requires c =
    (span_stops c.split_run.ensures c.in_ok-first.ensures.cases.0, rw c.ends_line.ensures at c.if-ends_line.false)

pub returns-then-ends_line : goal.returns-then-ends_line
returns-then-ends_line c =
    c.parts.invariant ∙ calm_passed c.parts.blanks c.split_run.ensures
    ∙ rw (← c.blanks_over-before.ensures) (ended_at c.blanks_over-before.result c.in_ok-first.ensures.cases.0
    (rw c.ends_line.ensures at c.if-ends_line.true))

pub returns-in_err-rest : goal.returns-in_err-rest
returns-in_err-rest c =
    rw c.from_residual-in_err-rest.ensures (c.parts.invariant ∙ calm_passed c.parts.blanks c.split_run.ensures
    ∙ rw (← c.blanks_over-before.ensures, c.in_ok-first.ensures.cases.0) c.in_err-rest.ensures)

pub parts-preserved : goal.parts-preserved
parts-preserved c =
    c.parts.invariant ∙ calm_passed c.parts.blanks c.split_run.ensures
    ∙ rw (← c.blanks_over-before.ensures, c.in_ok-first.ensures.cases.0) c.in_ok-rest.ensures.same

pub parts-smaller : goal.parts-smaller
parts-smaller c =
    omega (arith, span_shorter c.split_run.ensures c.in_ok-first.ensures.cases.0, c.in_ok-rest.ensures.shorter)
