use Rattle.std.proofs.Common.{◌∙◌, ap, arith, length}
use Rattle.dotenvy_format.proofs.lines.LineEnds.{escape_in_quotes, span_shorter, span_stops}
use Rattle.dotenvy_format.proofs.lines.OpenLines.{escape_feed, escape_open, escape_passed, feed_found, none_open}
use Rattle.dotenvy_format.proofs.lines.OpenLines.{open_passed, quote_found}
use Rattle.dotenvy_format.proofs.walk.from_feed.Goals as goal

pub returns-in_err-first : goal.returns-in_err-first
returns-in_err-first c =
    rw c.from_residual.ensures (c.escapes.invariant ∙ open_passed c.args.quote c.split_run.ensures
    ∙ none_open c.args.quote c.split_run.result.1.now c.in_err-first.ensures.cases)

pub returns-then-first-eq10 : goal.returns-then-first-eq10
returns-then-first-eq10 c =
    c.escapes.invariant ∙ open_passed c.args.quote c.split_run.ensures
    ∙ feed_found c.args.quote c.in_ok-first.first.now c.in_ok-first.ensures.cases.0 c.if-first-eq10.true

pub returns-then-first-quote : goal.returns-then-first-quote
returns-then-first-quote c =
    c.escapes.invariant ∙ open_passed c.args.quote c.split_run.ensures
    ∙ quote_found c.args.quote c.in_ok-first.first.now c.requires c.in_ok-first.ensures.cases.0 c.if-first-quote.true

pub returns-in_err-escaped : goal.returns-in_err-escaped
returns-in_err-escaped c =
    let parts = c.in_ok-first.ensures.cases.0 in
    let first = c.in_ok-first.first.now in
    rw c.from_residual-in_err-escaped.ensures (c.escapes.invariant ∙ open_passed c.args.quote c.split_run.ensures
    ∙ escape_open c.args.quote first c.split_run.result.1.now c.in_ok-first.behind.now c.requires parts
    (escape_in_quotes c.args.quote first (span_stops c.split_run.ensures parts) c.if-first-quote.false
    c.if-first-eq10.false) c.in_err-escaped.ensures.cases)

pub returns-then-escaped-eq10 : goal.returns-then-escaped-eq10
returns-then-escaped-eq10 c =
    let parts = c.in_ok-first.ensures.cases.0 in
    let first = c.in_ok-first.first.now in
    c.escapes.invariant ∙ open_passed c.args.quote c.split_run.ensures
    ∙ escape_feed c.args.quote first c.in_ok-escaped.escaped.now c.requires parts
    (escape_in_quotes c.args.quote first (span_stops c.split_run.ensures parts) c.if-first-quote.false
    c.if-first-eq10.false) c.in_ok-escaped.ensures.cases.0 c.if-escaped-eq10.true

pub escapes-preserved : goal.escapes-preserved
escapes-preserved c =
    let parts = c.in_ok-first.ensures.cases.0 in
    let first = c.in_ok-first.first.now in
    c.escapes.invariant ∙ open_passed c.args.quote c.split_run.ensures
    ∙ escape_passed c.args.quote first c.in_ok-escaped.escaped.now c.requires parts
    (escape_in_quotes c.args.quote first (span_stops c.split_run.ensures parts) c.if-first-quote.false
    c.if-first-eq10.false) c.in_ok-escaped.ensures.cases.0 c.if-escaped-eq10.false

pub escapes-smaller : goal.escapes-smaller
escapes-smaller c =
    omega (
      arith,
      span_shorter c.split_run.ensures c.in_ok-first.ensures.cases.0,
      ap length c.in_ok-escaped.ensures.cases.0,
    )
