use Rattle.std.proofs.Common.{◌≡◌, false, length}
use Rattle.dotenvy_format.specs.inside.LineEnd.{from_feed}
use Rattle.dotenvy_format.proofs.walk.from_feed.Given as goal

-- the rest leads where all of the bytes lead
abbrev pub invariant-escapes : goal.invariant-escapes
invariant-escapes l = from_feed l.fn.quote false l.fn.bytes ≡ from_feed l.fn.quote false l.rest

abbrev pub decreases-escapes : goal.decreases-escapes
decreases-escapes l = length l.rest
