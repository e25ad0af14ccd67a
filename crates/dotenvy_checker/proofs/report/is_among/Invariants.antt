use Rattle.std.proofs.Common.{◌≡◌, length}
use Rattle.dotenvy_checker.specs.Findings.{is_among}
use Rattle.dotenvy_checker.proofs.report.is_among.Given as goal

-- what is left decides the result
abbrev pub invariant-kinds : goal.invariant-kinds
invariant-kinds l = is_among l.kind l.rest ≡ is_among l.kind l.fn.kinds

abbrev pub decreases-kinds : goal.decreases-kinds
decreases-kinds l = length l.rest
