use Rattle.std.proofs.Common.{◌≡◌, length}
use Rattle.dotenvy_format.specs.inside.LineEnd.{from_line_end, line_start, unquoted}
use Rattle.dotenvy_format.proofs.walk.from_line_end.Given as goal

-- the rest leads where all of the bytes lead
abbrev pub invariant-parts : goal.invariant-parts
invariant-parts l = from_line_end line_start l.fn.bytes ≡ from_line_end (unquoted l.blanks) l.rest

abbrev pub decreases-parts : goal.decreases-parts
decreases-parts l = length l.rest
