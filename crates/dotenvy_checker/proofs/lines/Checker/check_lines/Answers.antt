use Rattle.std.proofs.Common.{refl, sym}
use Rattle.std.proofs.lemmas.Option.{none-some}
use Rattle.std.proofs.lemmas.Result.{err_from_is_err_and}
use Rattle.dotenvy_lines.proofs.LinesRead.{answers}
use Rattle.dotenvy_checker.proofs.CheckedReads.{checked_all, checked_before, checked_mark, checked_more, checked_none}
use Rattle.dotenvy_checker.proofs.CheckedReads.{checked_stop, unseen_told}
use Rattle.dotenvy_checker.proofs.lines.Checker.check_lines.Goals as goal

pub returns-in-Err-clause-told : goal.returns-in-Err-clause-told
returns-in-Err-clause-told g c = λ a opened told few.
    rw c.end_of_reading.ensures (checked_mark g.W.Sink.told a c.args.lines.now.lines c.drop_mark.new.self.lines
    c.args.self.now c.args.report.now c.args.writer.now c.in-Err.fault (c.in-Err.ensures.told a opened told))

pub lines-init : goal.lines-init
lines-init g c = record {
  shut = λ shut. (rw (c.in_default.ensures.shut shut).1, refl, refl);
  came = checked_none g.W.Sink.told c.args.lines.now.lines c.drop_mark.new.self.lines c.args.self.now
      c.args.report.now c.args.writer.now (λ opened. c.in_default.ensures.ok) c.in_default.ensures.counts.0
      c.in_default.ensures.told;
}

pub lines-preserved : goal.lines-preserved
lines-preserved g c = record {
  shut = λ shut.
      absurd (none-some c.in-Some.outcome
      (sym (c.in-Some.ensures.shut (rw (c.lines.invariant.shut shut).0 shut)).0));
  came = checked_more g.W.Sink.told c.in-Some.outcome c.lines.invariant.came
      (answers c.in-Some.ensures.shut c.in-Some.ensures.told) c.in_default-check_outcome.ensures.checks
      c.in_ok-tell_settled.ensures;
}

pub returns-in-Err-check_outcome-clause-told : goal.returns-in-Err-check_outcome-clause-told
returns-in-Err-check_outcome-clause-told g c = λ a opened told few.
    rw c.end_of_reading-in-Err-check_outcome.ensures (checked_before g.W.Sink.told c.in-Err-check_outcome.fault
    c.lines.invariant.came (answers c.in-Some.ensures.shut c.in-Some.ensures.told)
    c.in-Err-check_outcome.ensures.error a opened told few)

pub returns-in_err-seen-clause-told : goal.returns-in_err-seen-clause-told
returns-in_err-seen-clause-told g c =
    unseen_told g.W.Sink.told c.check_outcome.new.self c.in-Some.outcome c.from_residual.result
    c.from_residual.ensures.1 c.lines.invariant.came
    (answers c.in-Some.ensures.shut c.in-Some.ensures.told) c.in_default-check_outcome.ensures.checks

pub returns-in_err-tell_settled-clause-told : goal.returns-in_err-tell_settled-clause-told
returns-in_err-tell_settled-clause-told g c =
    let p = err_from_is_err_and c.from_residual-in_err-tell_settled.result
    c.from_residual-in_err-tell_settled.ensures.1 in
    rw (p.1, p.2) (checked_stop g.W.Sink.told c.check_outcome.new.self c.tell_settled.new.self
    c.tell_settled.new.report c.tell_settled.new.writer c.in-Some.outcome c.in_err-tell_settled.field-0.0
    c.lines.invariant.came (answers c.in-Some.ensures.shut c.in-Some.ensures.told)
    c.in_default-check_outcome.ensures.checks c.in_err-tell_settled.ensures)

pub returns-clause-told : goal.returns-clause-told
returns-clause-told g c =
    checked_all g.W.Sink.told c.lines.invariant.came
    (answers c.in_default-advance.ensures.shut c.in_default-advance.ensures.told)
