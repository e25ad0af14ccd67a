use Rattle.std.proofs.Common.{◌≡◌, length}
use Rattle.dotenvy_findings.specs.Readings.{has_kind, marks_of}
use Rattle.dotenvy_findings.proofs.reading.has_kind.Given as goal

-- what is left decides the result
abbrev pub invariant-marks : goal.invariant-marks
invariant-marks g l = has_kind l.kind (marks_of l.rest) ≡ has_kind l.kind (marks_of l.fn.marks)

abbrev pub decreases-marks : goal.decreases-marks
decreases-marks g l = length l.rest
