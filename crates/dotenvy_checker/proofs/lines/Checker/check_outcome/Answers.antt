use Rattle.dotenvy_lines.specs.inside.Splitter.{last_lines}
use Rattle.dotenvy_checker.proofs.lines.Checker.check_outcome.Goals.{in-Ok+in_ok-check_whole-in-Ok, in-Err+else-has_failed+in_ok-check_fault-in-Err+in-LineParse-1, in-Err+else-has_failed+in_ok-check_fault-in-Err+in-Nul-1, in-Err+else-has_failed+in_ok-check_fault-in-Err+in-Io-1}
use Rattle.dotenvy_checker.proofs.lines.Checker.check_outcome.Goals as goal

pub returns-clause-checks : goal.returns-clause-checks
returns-clause-checks g c =
    let last = (last_lines c.args.lines.now.lines).1 in
    elim c.match-outcome.branch [
      | in-Ok+in_ok-check_whole-in-Ok w ↦
          rw (w.in-Ok.is, w.self-is) (rw (c.last_lines-number.ensures, w.line.ensures)
          at (w.in_ok-check_whole-in-Ok.ensures last))
      | in-Err+else-has_failed+in_ok-check_fault-in-Err+in-LineParse-1 w ↦
          rw (w.in-Err.is, w.self-is) (
            λ failed. let no = rw w.if-has_failed.false at (w.has_failed.ensures.1 failed) in cc,
            rw c.last_lines-number.ensures at w.in_ok-check_fault-in-Err.ensures,
          )
      | in-Err+else-has_failed+in_ok-check_fault-in-Err+in-Nul-1 w ↦
          rw (w.in-Err.is, w.self-is) (
            λ failed. let no = rw w.if-has_failed.false at (w.has_failed.ensures.1 failed) in cc,
            rw c.last_lines-number.ensures at w.in_ok-check_fault-in-Err.ensures,
          )
      | in-Err+else-has_failed+in_ok-check_fault-in-Err+in-Io-1 w ↦
          rw (w.in-Err.is, w.self-is) (
            λ failed. let no = rw w.if-has_failed.false at (w.has_failed.ensures.1 failed) in cc,
            rw c.last_lines-number.ensures at w.in_ok-check_fault-in-Err.ensures,
          )
    ]
