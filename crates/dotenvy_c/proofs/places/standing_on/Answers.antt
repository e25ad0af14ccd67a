use Rattle.std.proofs.Common.{◌≡◌, ◌∙◌, arith}
use Rattle.std.specs.Prelude.{◌-◌}
use Rattle.dotenvy_c.proofs.Standing.{front_len}
use Rattle.dotenvy_c.proofs.places.standing_on.Goals as goal

pub returns-clause-place : goal.returns-clause-place
returns-clause-place c =
    let first : c.after_lines-begin.result.lines ≡ c.args.lines.0 - 1 =
    c.after_lines-begin.ensures.lines ∙ c.saturating_sub.ensures in
    let begin = rw first at (front_len c.after_lines-begin.ensures.skips) in
    let after = rw c.after_lines-after.ensures.lines at (front_len c.after_lines-after.ensures.skips) in
    let len = c.saturating_sub-2.ensures in
    (omega (arith, begin), omega (arith, begin, after, len))

pub returns-clause-bytes : goal.returns-clause-bytes
returns-clause-bytes c =
    rw (c.after_lines-begin.ensures.lines ∙ c.saturating_sub.ensures) at c.after_lines-begin.ensures.skips
