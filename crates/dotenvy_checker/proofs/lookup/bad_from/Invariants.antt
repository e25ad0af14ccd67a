use Rattle.std.proofs.Common.{◌≡◌, length}
use Rattle.dotenvy_checker.specs.Findings.{bad_from}
use Rattle.dotenvy_checker.proofs.lookup.bad_from.Given as goal

-- what is left decides the result
abbrev pub invariant-bytes : goal.invariant-bytes
invariant-bytes l = bad_from l.line l.rest ≡ bad_from l.line l.fn.bad

abbrev pub decreases-bytes : goal.decreases-bytes
decreases-bytes l = length l.rest
