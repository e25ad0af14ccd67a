use Rattle.std.proofs.Common.{◌∙◌, ap, arith, length}
use Rattle.dotenvy_format.proofs.lines.LineEnds.{escape_in_quotes, feed_in_quotes, none_in_quotes, quote_closes}
use Rattle.dotenvy_format.proofs.lines.LineEnds.{quoted_escape, quoted_escape_fails, quoted_passed, span_shorter}
use Rattle.dotenvy_format.proofs.lines.LineEnds.{span_stops}
use Rattle.dotenvy_format.proofs.walk.after_quotes.Goals as goal

pub returns-in_err-first : goal.returns-in_err-first
returns-in_err-first c =
    rw c.from_residual.ensures (c.escapes.invariant.0 ∙ quoted_passed c.args.quote c.split_run.ensures
    ∙ none_in_quotes c.args.quote c.split_run.result.1.now c.in_err-first.ensures.cases)

pub returns-then-first-quote : goal.returns-then-first-quote
returns-then-first-quote c =
    let span = c.split_run.ensures in
    let parts = c.in_ok-first.ensures.cases.0 in record {
      same =
          c.escapes.invariant.0 ∙ quoted_passed c.args.quote span
          ∙ rw parts (quote_closes c.args.quote c.in_ok-first.first.now c.in_ok-first.behind.now c.requires
          c.if-first-quote.true);
      shorter = omega (arith, c.escapes.invariant.1, span_shorter span parts);
    }

pub returns-then-first-eq10 : goal.returns-then-first-eq10
returns-then-first-eq10 c =
    let parts = c.in_ok-first.ensures.cases.0 in
    c.escapes.invariant.0 ∙ quoted_passed c.args.quote c.split_run.ensures
    ∙ rw parts (feed_in_quotes c.args.quote c.in_ok-first.first.now c.in_ok-first.behind.now c.if-first-eq10.true)

pub returns-in_err-rest : goal.returns-in_err-rest
returns-in_err-rest c =
    let quote = c.args.quote in
    let span = c.split_run.ensures in
    let first = c.in_ok-first.first.now in
    let parts = c.in_ok-first.ensures.cases.0 in
    rw c.from_residual-in_err-rest.ensures (c.escapes.invariant.0 ∙ quoted_passed quote span
    ∙ rw parts (quoted_escape_fails quote first c.in_ok-first.behind.now c.requires
    (escape_in_quotes quote first (span_stops span parts) c.if-first-quote.false c.if-first-eq10.false)
    c.in_err-rest.ensures))

pub escapes-preserved : goal.escapes-preserved
escapes-preserved c =
    let quote = c.args.quote in
    let span = c.split_run.ensures in
    let first = c.in_ok-first.first.now in
    let parts = c.in_ok-first.ensures.cases.0 in
    let escaped = c.in_ok-rest.ensures in (
      c.escapes.invariant.0 ∙ quoted_passed quote span
          ∙ rw (parts, escaped.1) (quoted_escape quote first escaped.0 c.in_ok-rest.rest.now c.requires
          (escape_in_quotes quote first (span_stops span parts) c.if-first-quote.false c.if-first-eq10.false)
          escaped.2),
      omega (arith, c.escapes.invariant.1, span_shorter span parts, ap length escaped.1),
    )

pub escapes-smaller : goal.escapes-smaller
escapes-smaller c =
    let parts = c.in_ok-first.ensures.cases.0 in
    omega (arith, span_shorter c.split_run.ensures parts, ap length c.in_ok-rest.ensures.1)
