use Rattle.std.proofs.Common.{refl}
use Rattle.std.proofs.lemmas.Result.{err_from_is_err_and}
use Rattle.dotenvy_checker.specs.inside.ToldLines.{IsAny, KeepsNone}
use Rattle.dotenvy_checker.proofs.ToldFronts.{none_left, tells_nothing, told_last, told_more, told_none, told_refused}
use Rattle.dotenvy_checker.proofs.ToldFronts.{told_unwritten}
use Rattle.dotenvy_checker.proofs.lines.Checker.tell_rest.Goals as goal

pub findings-init : goal.findings-init
findings-init g c = record {
  told = told_none IsAny g.W.Sink.told c.args.self.now c.args.report.now c.args.writer.now;
  none = λ none. (refl, none);
}

pub findings-preserved : goal.findings-preserved
findings-preserved g c = record {
  told = told_more IsAny g.W.Sink.told c.args.seen.now c.findings.invariant.told c.in-Some.ensures.items refl refl
      c.resolved-finding.ensures tt c.in_ok-tell.ensures.told c.in_ok-write_part.ensures.part
      c.in_ok-write_part.ensures.same;
  none = λ none.
      let clash = rw c.in-Some.ensures.items at (c.findings.invariant.none none).1 in
      cc;
}

pub returns-in_err-tell-clause-told : goal.returns-in_err-tell-clause-told
returns-in_err-tell-clause-told g c =
    told_refused KeepsNone (record c.findings.self { pending = c.pop_front.new.self }) c.from_residual.result
    c.findings.invariant.told
    c.in_err-tell.ensures.refused c.from_residual.ensures.1

pub returns-in_err-write_part-clause-told : goal.returns-in_err-write_part-clause-told
returns-in_err-write_part-clause-told g c =
    let new = record c.findings.self { pending = c.pop_front.new.self } in
    let told = told_more IsAny g.W.Sink.told {new = new} c.args.seen.now c.findings.invariant.told
    c.in-Some.ensures.items refl refl c.resolved-finding.ensures tt c.in_ok-tell.ensures.told
    (tells_nothing g.W.Sink.told c.tell.new.self c.findings.writer) refl in
    let p = err_from_is_err_and c.from_residual-in_err-write_part.result
    c.from_residual-in_err-write_part.ensures.1 in
    rw (p.1, p.2) (told_unwritten KeepsNone new c.write_part.new.self c.write_part.new.writer
    c.in_err-write_part.field-0.0 told c.in_err-write_part.ensures.part)

pub returns-clause-told : goal.returns-clause-told
returns-clause-told g c =
    let left = c.pop_front.new.self in
    told_last (record c.findings.self { pending = left }) c.findings.invariant.told refl c.in_default.ensures.items
    (none_left left.items left.len left.ok.0 c.in_default.ensures.cases.1)

pub returns-clause-none : goal.returns-clause-none
returns-clause-none g c = λ none. (c.findings.invariant.none none).0
