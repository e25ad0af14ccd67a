use Rattle.std.proofs.Common.{◌≡◌, length, ◌≤◌}
use Rattle.dotenvy_format.specs.inside.LineEnd.{between, from_line_end}
use Rattle.dotenvy_format.proofs.walk.after_quotes.Given as goal

-- the rest leads where all of the bytes lead
abbrev pub invariant-escapes : goal.invariant-escapes
invariant-escapes l =
    (from_line_end (between l.fn.quote) l.fn.bytes ≡ from_line_end (between l.fn.quote) l.rest)
    × (length l.rest ≤ length l.fn.bytes)

abbrev pub decreases-escapes : goal.decreases-escapes
decreases-escapes l = length l.rest
