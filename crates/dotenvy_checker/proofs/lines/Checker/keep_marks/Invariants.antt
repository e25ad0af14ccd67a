use Rattle.std.proofs.Common.{◌≡◌, ◌++◌, map}
use Rattle.dotenvy_findings.specs.Readings.{marks_of}
use Rattle.dotenvy_checker.specs.Findings.{told_remark}
use Rattle.dotenvy_checker.specs.inside.CheckedLines.{declared_of, setting_at, so_far}
use Rattle.dotenvy_checker.proofs.lines.Checker.keep_marks.Given as goal

-- with the marks that are left, all are kept
abbrev pub invariant-marks : goal.invariant-marks
invariant-marks g l = let told = told_remark (setting_at l.fn.self l.line.is_guess) in record {
  found : (so_far l.self).remarks ++ map told (marks_of l.mark-iterator.rest.items)
      ≡ (so_far l.fn.self).remarks ++ map told (marks_of l.fn.marks.items);
  declares : declared_of l.self.declared ≡ declared_of l.fn.self.declared;
  stands : l.self.above ≡ l.fn.self.above;
  names : l.self.names ≡ l.fn.self.names;
  dialect : l.self.dialect ≡ l.fn.self.dialect;
  tells : l.self.tells_text ≡ l.fn.self.tells_text;
}
