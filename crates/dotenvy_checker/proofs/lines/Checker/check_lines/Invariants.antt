use Rattle.std.proofs.Common.{◌≡◌, ◌≢◌}
use Rattle.dotenvy_lines.specs.declared.lines.Stage.TheVariants.{Open}
use Rattle.dotenvy_lines.specs.Lines.{lines_measure}
use Rattle.dotenvy_checker.proofs.CheckedReads.{CheckedSoFar}
use Rattle.dotenvy_checker.proofs.lines.Checker.check_lines.Given as goal

-- some lines were read and checked, and what is settled is told
abbrev pub invariant-lines : goal.invariant-lines
invariant-lines g l = record {
  shut : l.fn.lines.lines.stage ≢ Open →
      (l.lines.lines ≡ l.fn.lines.lines) × (l.self ≡ l.fn.self) × (l.report ≡ l.fn.report);
  came : CheckedSoFar g.W.Sink.told l.fn.lines.lines l.lines.lines l.fn.self l.fn.report l.fn.writer l.self l.report
      l.writer;
}

abbrev pub decreases-lines : goal.decreases-lines
decreases-lines g l = lines_measure l.lines.lines
