use Rattle.std.proofs.Common.{Ok, Err, ap, refl}
use Rattle.std.proofs.lemmas.Result.{err_from_is_err_and}
use Rattle.dotenvy_checker.specs.Checks.{names_in}
use Rattle.dotenvy_checker.proofs.ReportParts.{checked_of, memory_tells_nothing, reports_end, shut_tells}
use Rattle.dotenvy_checker.proofs.check.check.Goals as goal

pub returns-in_err-alloc-clause-reports : goal.returns-in_err-alloc-clause-reports
returns-in_err-alloc-clause-reports g c = λ opened a tells few.
    memory_tells_nothing g.W.Sink.told c.args.how.now c.args.name.now (names_in c.args.env.now.names) c.args.file a
    c.args.writer.now c.from_residual.result c.from_residual.ensures.1

pub returns-in_err-clone-clause-reports : goal.returns-in_err-clone-clause-reports
returns-in_err-clone-clause-reports g c = λ opened a tells few.
    memory_tells_nothing g.W.Sink.told c.args.how.now c.args.name.now (names_in c.args.env.now.names) c.args.file a
    c.args.writer.now c.from_residual-in_err-clone.result c.from_residual-in_err-clone.ensures.1

pub returns-in_err-clone-2-clause-reports : goal.returns-in_err-clone-2-clause-reports
returns-in_err-clone-2-clause-reports g c = λ opened a tells few.
    memory_tells_nothing g.W.Sink.told c.args.how.now c.args.name.now (names_in c.args.env.now.names) c.args.file a
    c.args.writer.now c.from_residual-in_err-clone-2.result c.from_residual-in_err-clone-2.ensures.1

pub returns-in_err-report-clause-reports : goal.returns-in_err-report-clause-reports
returns-in_err-report-clause-reports g c = λ opened a tells few.
    memory_tells_nothing g.W.Sink.told c.args.how.now c.args.name.now (names_in c.args.env.now.names) c.args.file a
    c.args.writer.now c.from_residual-in_err-report.result c.from_residual-in_err-report.ensures.1

pub returns-in_err-checker-clause-reports : goal.returns-in_err-checker-clause-reports
returns-in_err-checker-clause-reports g c = λ opened a tells few.
    memory_tells_nothing g.W.Sink.told c.args.how.now c.args.name.now (names_in c.args.env.now.names) c.args.file a
    c.args.writer.now c.from_residual-in_err-checker.result c.from_residual-in_err-checker.ensures.1

pub returns-in_err-end-clause-reports : goal.returns-in_err-end-clause-reports
returns-in_err-end-clause-reports g c = λ opened a tells few.
    let lines = c.into_lines-lines.ensures in
    let p = err_from_is_err_and c.from_residual-in_err-end.result c.from_residual-in_err-end.ensures.1 in
    let checked = checked_of c.end.new.self c.check_all-read.new.self in
    rw (p.1, p.2) (reports_end g.W.Sink.told a c.check_all-read.new.report c.check_all-read.new.self c.args.writer.now
    c.check_all-read.new.writer c.end.new.writer c.args.file checked c.check_all-read.result
    (Err c.in_err-end.field-0.0) c.in_ok-checker.ensures lines.dialect c.in_ok-report.ensures
    ((rw lines.lines at c.check_all-read.ensures.told) a opened tells few) c.in_err-end.ensures.ends
    (ap (λ r. r.found) c.end.ensures.same) refl)

pub returns-clause-reports : goal.returns-clause-reports
returns-clause-reports g c = λ opened a tells few.
    let lines = c.into_lines-lines.ensures in
    let checked = checked_of c.end.new.self c.check_all-read.new.self in
    reports_end g.W.Sink.told a c.check_all-read.new.report c.check_all-read.new.self c.args.writer.now
    c.check_all-read.new.writer c.end.new.writer c.args.file checked c.check_all-read.result (Ok tt)
    c.in_ok-checker.ensures lines.dialect c.in_ok-report.ensures
    ((rw lines.lines at c.check_all-read.ensures.told) a opened tells few) c.in_ok-end.ensures.ends
    (ap (λ r. r.found) c.end.ensures.same) refl

pub returns-clause-shut : goal.returns-clause-shut
returns-clause-shut g c = λ closed.
    let checked = checked_of c.end.new.self c.check_all-read.new.self in
    shut_tells g.W.Sink.told c.check_all-read.new.report c.check_all-read.new.self c.check_all-read.new.writer
    c.end.new.writer checked c.check_all-read.result c.in_ok-checker.ensures c.in_ok-report.ensures
    (c.check_all-read.ensures.shut (rw c.into_lines-lines.ensures.lines closed)
    (ap (λ s. s.remarks) c.in_ok-checker.ensures.nothing)) c.in_ok-end.ensures.ends
    (ap (λ r. r.found) c.end.ensures.same) refl
