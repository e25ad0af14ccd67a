use Rattle.std.proofs.Common.{Fits, ap, arith, length, rules, sym, w64, ◌∙◌}
use Rattle.dotenvy_editor.proofs.ChangedLines.{less_left}
use Rattle.dotenvy_editor.proofs.WholeLines.{ends_all, ends_open, fits_more, none_counted, one_counted}
use Rattle.dotenvy_editor.proofs.whole.whole_len.Goals as goal

pub lines-init : goal.lines-init
lines-init g c =
    rw c.up_to_last_line_feed-front.ensures at (none_counted {lines = c.in_ok-lines.lines} c.in_ok-lines.ensures)

pub returns-then-stays_open : goal.returns-then-stays_open
returns-then-stays_open g c =
    let takes = rw c.in-Some.is at c.in_ok-slice.ensures.gives in
    ends_open c.lines.invariant takes (sym c.stays_open.ensures ∙ c.if-stays_open.true)

pub overflow_add-len : goal.overflow_add-len
overflow_add-len g c =
    let takes = rw c.in-Some.is at c.in_ok-slice.ensures.gives in
    let bound : Fits w64 (length c.up_to_last_line_feed-front.result.now) = search rules in
    let within = fits_more c.lines.invariant takes in
    let same = ap length c.up_to_last_line_feed-front.ensures in
    omega (arith, bound, within, same)

pub lines-smaller : goal.lines-smaller
lines-smaller g c = less_left (rw c.in-Some.is at c.in_ok-slice.ensures.gives)

pub lines-preserved : goal.lines-preserved
lines-preserved g c =
    let takes = rw c.in-Some.is at c.in_ok-slice.ensures.gives in
    let shut = sym c.stays_open.ensures ∙ c.if-stays_open.false in
    one_counted c.lines.invariant takes shut

pub returns : goal.returns
returns g c = ends_all c.lines.invariant (rw c.in_default.is at c.in_ok-slice.ensures.gives).0
