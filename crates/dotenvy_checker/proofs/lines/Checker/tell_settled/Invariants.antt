use Rattle.std.proofs.Common.{length}
use Rattle.dotenvy_checker.specs.inside.CheckedLines.{declared_of}
use Rattle.dotenvy_checker.specs.inside.ToldLines.{IsSettled}
use Rattle.dotenvy_checker.proofs.ToldFronts.{ToldSoFar}
use Rattle.dotenvy_checker.proofs.lines.Checker.tell_settled.Given as goal

-- a settled front of what was kept is told
abbrev pub invariant-findings : goal.invariant-findings
invariant-findings g l =
    ToldSoFar (IsSettled (declared_of l.fn.self.declared)) g.W.Sink.told l.fn.self l.fn.report l.fn.writer l.self
    l.report l.writer

abbrev pub decreases-findings : goal.decreases-findings
decreases-findings g l = length l.self.pending.items
