use Rattle.std.proofs.Common.{◌≡◌, [], length}
use Rattle.dotenvy_checker.specs.inside.CheckedLines.{so_far}
use Rattle.dotenvy_checker.specs.inside.ToldLines.{IsAny}
use Rattle.dotenvy_checker.proofs.ToldFronts.{ToldSoFar}
use Rattle.dotenvy_checker.proofs.lines.Checker.tell_rest.Given as goal

-- a front of what was kept is told
abbrev pub invariant-findings : goal.invariant-findings
invariant-findings g l = record {
  told : ToldSoFar IsAny g.W.Sink.told l.fn.self l.fn.report l.fn.writer l.self l.report l.writer;
  none : (so_far l.fn.self).remarks ≡ [] → (l.report ≡ l.fn.report) × ((so_far l.self).remarks ≡ []);
}

abbrev pub decreases-findings : goal.decreases-findings
decreases-findings g l = length l.self.pending.items
