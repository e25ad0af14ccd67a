use Rattle.std.proofs.lemmas.Result.{err_from_is_err_and}
use Rattle.dotenvy_checker.proofs.CheckedReads.{checked_rest, checked_rest_stop, checked_rest_unseen, shut_rest}
use Rattle.dotenvy_checker.proofs.lines.Checker.check_all.Goals as goal

pub returns-in_err-ended-clause-told : goal.returns-in_err-ended-clause-told
returns-in_err-ended-clause-told g c =
    let p = err_from_is_err_and c.from_residual.result c.from_residual.ensures.1 in
    rw (p.1, p.2) c.in_err-ended.ensures.told

pub returns-in_err-seen-clause-told : goal.returns-in_err-seen-clause-told
returns-in_err-seen-clause-told g c = λ a opened told few.
    checked_rest_unseen g.W.Sink.told c.in_ok-ended.ended c.from_residual-in_err-seen.result
    c.from_residual-in_err-seen.ensures.1 (c.in_ok-ended.ensures.told a opened told few)

pub returns-in_err-tell_rest-clause-told : goal.returns-in_err-tell_rest-clause-told
returns-in_err-tell_rest-clause-told g c = λ a opened told few.
    let p = err_from_is_err_and c.from_residual-in_err-tell_rest.result
    c.from_residual-in_err-tell_rest.ensures.1 in
    rw (p.1, p.2) (checked_rest_stop g.W.Sink.told c.tell_rest.new.self c.tell_rest.new.report
    c.tell_rest.new.writer c.in_ok-ended.ended c.in_err-tell_rest.field-0.0
    (c.in_ok-ended.ensures.told a opened told few) c.in_err-tell_rest.ensures.told)

pub returns-in-None-clause-told : goal.returns-in-None-clause-told
returns-in-None-clause-told g c = λ a opened told few.
    rw c.in-None.is at (checked_rest g.W.Sink.told c.in_ok-ended.ended (c.in_ok-ended.ensures.told a opened told few)
    c.in_ok-tell_rest.ensures.told)

pub returns-in-Some-clause-told : goal.returns-in-Some-clause-told
returns-in-Some-clause-told g c = λ a opened told few.
    rw c.in-Some.is at (checked_rest g.W.Sink.told c.in_ok-ended.ended (c.in_ok-ended.ensures.told a opened told few)
    c.in_ok-tell_rest.ensures.told)

pub returns-in-None-clause-shut : goal.returns-in-None-clause-shut
returns-in-None-clause-shut g c = λ shut none.
    let same = c.in_ok-ended.ensures.shut shut in
    shut_rest g.W.Sink.told same.1 same.2 (c.in_ok-tell_rest.ensures.none (rw same.1 none))
    c.in_ok-tell_rest.ensures.told
