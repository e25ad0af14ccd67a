use Rattle.std.proofs.Common.{refl}
use Rattle.std.proofs.lemmas.Result.{err_from_is_err_and}
use Rattle.dotenvy_checker.specs.inside.CheckedLines.{declared_of, remark_of}
use Rattle.dotenvy_checker.specs.inside.ToldLines.{IsSettled, KeepsAny}
use Rattle.dotenvy_checker.proofs.ToldFronts.{front_popped, settled_one, tells_nothing, told_kept, told_more, told_none}
use Rattle.dotenvy_checker.proofs.ToldFronts.{told_refused, told_unwritten}
use Rattle.dotenvy_checker.proofs.lines.Checker.tell_settled.Goals as goal

pub findings-init : goal.findings-init
findings-init g c =
    told_none (IsSettled (declared_of c.args.self.now.declared)) g.W.Sink.told c.args.self.now c.args.report.now
    c.args.writer.now

pub findings-preserved : goal.findings-preserved
findings-preserved g c =
    let first = c.in-Some.first.now in
    let left = c.pop_front.new.self.items in
    let is = front_popped c.findings.self.pending.items left first c.pop_front.result c.in-Some.ensures.lookup
    (c.pop_front.ensures.variant.1 (c.in-Some.ensures.variant.0 refl)) c.pop_front.ensures.items in
    let settled = settled_one (declared_of c.args.self.now.declared) (declared_of c.findings.self.declared)
    (remark_of first) c.resolved-finding.result c.is_unknown.result c.findings.invariant.tells.declared
    c.resolved-finding.ensures c.is_unknown.ensures c.if-is_unknown.false in
    told_more (IsSettled (declared_of c.args.self.now.declared)) g.W.Sink.told c.args.seen.now c.findings.invariant is
    refl refl c.resolved-finding.ensures settled c.in_ok-tell.ensures.told c.in_ok-write_part.ensures.part
    c.in_ok-write_part.ensures.same

pub returns-then-is_unknown : goal.returns-then-is_unknown
returns-then-is_unknown g c = told_kept KeepsAny c.findings.invariant tt

pub returns-in_err-tell : goal.returns-in_err-tell
returns-in_err-tell g c =
    told_refused KeepsAny c.findings.self c.from_residual.result c.findings.invariant
    c.in_err-tell.ensures.refused c.from_residual.ensures.1

pub returns-in_err-write_part : goal.returns-in_err-write_part
returns-in_err-write_part g c =
    let first = c.in-Some.first.now in
    let left = c.pop_front.new.self.items in
    let is = front_popped c.findings.self.pending.items left first c.pop_front.result c.in-Some.ensures.lookup
    (c.pop_front.ensures.variant.1 (c.in-Some.ensures.variant.0 refl)) c.pop_front.ensures.items in
    let settled = settled_one (declared_of c.args.self.now.declared) (declared_of c.findings.self.declared)
    (remark_of first) c.resolved-finding.result c.is_unknown.result c.findings.invariant.tells.declared
    c.resolved-finding.ensures c.is_unknown.ensures c.if-is_unknown.false in
    let new = record c.findings.self { pending = c.pop_front.new.self } in
    let told = told_more (IsSettled (declared_of c.args.self.now.declared)) g.W.Sink.told {new = new} c.args.seen.now
    c.findings.invariant is refl refl c.resolved-finding.ensures settled c.in_ok-tell.ensures.told
    (tells_nothing g.W.Sink.told c.tell.new.self c.findings.writer) refl in
    let p = err_from_is_err_and c.from_residual-in_err-write_part.result
    c.from_residual-in_err-write_part.ensures.1 in
    rw (p.1, p.2) (told_unwritten KeepsAny new c.write_part.new.self c.write_part.new.writer
    c.in_err-write_part.field-0.0 told c.in_err-write_part.ensures.part)

pub returns : goal.returns
returns g c = told_kept KeepsAny c.findings.invariant tt
