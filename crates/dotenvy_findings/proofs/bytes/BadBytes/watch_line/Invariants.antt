use Rattle.std.proofs.Common.{◌≡◌, length}
use Rattle.dotenvy_findings.specs.Bytes.{watch_of, watched}
use Rattle.dotenvy_findings.proofs.bytes.BadBytes.watch_line.Given as goal

-- what is left leads to the same watch
abbrev pub invariant-bytes : goal.invariant-bytes
invariant-bytes g l = watched (watch_of l.self) l.rest ≡ watched (watch_of l.fn.self) l.bytes

abbrev pub decreases-bytes : goal.decreases-bytes
decreases-bytes g l = length l.rest
