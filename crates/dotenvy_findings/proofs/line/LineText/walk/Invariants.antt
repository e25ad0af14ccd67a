use Rattle.std.proofs.Common.{◌≡◌, length}
use Rattle.dotenvy_findings.specs.LineTexts.{walked, walked_line}
use Rattle.dotenvy_findings.proofs.line.LineText.walk.Given as goal

-- what is left leads to the same end
abbrev pub invariant-characters : goal.invariant-characters
invariant-characters l = walked l.left l.cursor ≡ walked_line l.fn.self.start l.fn.self.text.now

abbrev pub decreases-characters : goal.decreases-characters
decreases-characters l = length l.left
