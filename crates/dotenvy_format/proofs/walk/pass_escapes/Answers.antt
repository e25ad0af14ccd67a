use Rattle.std.proofs.Common.{arith, sym}
use Rattle.dotenvy_format.proofs.lines.LineTexts.{walking_start, walking_step}
use Rattle.dotenvy_format.proofs.walk.pass_escapes.Goals as goal

pub escapes-init : goal.escapes-init
escapes-init c = (walking_start c.utf8.text, c.utf8.text)

pub escapes-preserved : goal.escapes-preserved
escapes-preserved c =
    let back = c.stays_escaped.ensures c.if-stays_escaped.true in
    let first = rw c.in-Some-eq92-default.field-0-0-test at c.in-Some-eq92-default.ensures in
    let escaping = walking_step c.escapes.invariant.0 first (sym back.1) in
    (walking_step escaping c.in-Some.ensures (sym back.2), c.in-Some.ensures.follows)
