use Rattle.std.proofs.Common.{◌≡◌, length}
use Rattle.dotenvy_findings.specs.Readings.{begun, value_end}
use Rattle.dotenvy_findings.proofs.reading.Value.fault.Given as goal

-- what is left leads to the same end
abbrev pub invariant-characters : goal.invariant-characters
invariant-characters l =
    let value = l.fn.self.text.now in
    value_end value l.left l.cursor ≡ value_end value value (begun l.fn.self.dialect l.fn.self.start)

abbrev pub decreases-characters : goal.decreases-characters
decreases-characters l = length l.left
