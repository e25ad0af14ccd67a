use Rattle.std.proofs.Common.{arith, refl}
use Rattle.std.proofs.lemmas.Result.{err_from_is_err_and}
use Rattle.std.specs.Prelude.{Ok, Err}
use Rattle.dotenvy_lines.proofs.Inputs.{open_input, read_more_fails, read_more_gives}
use Rattle.dotenvy_lines.proofs.AskedReads.{asks_none, asks_once}
use Rattle.dotenvy_lines.proofs.input.Input.read_more.Goals as goal

pub returns-in_err-self-inside-clause-told : goal.returns-in_err-self-inside-clause-told
returns-in_err-self-inside-clause-told g c = λ a told.
    let p = err_from_is_err_and c.from_residual.result c.from_residual.ensures.1 in
    let before = open_input c.self.view_is c.requires.unended (omega (arith, c.if-self-eq0.false)) in
    rw (p.1, p.2) (read_more_fails _ c.in_err-self-inside.field-0.0 before told c.in_err-self-inside.ensures.told)

pub returns-clause-told : goal.returns-clause-told
returns-clause-told g c = λ a told.
    let before = open_input c.self.view_is c.requires.unended (omega (arith, c.if-self-eq0.false)) in
    read_more_gives (g.R.Source.told c.read_once.new.reader) before told c.in_ok-self-inside.ensures.told

pub returns-then-self-eq0-clause-asks : goal.returns-then-self-eq0-clause-asks
returns-then-self-eq0-clause-asks g c = asks_none _ _ _ refl refl refl refl

pub returns-in_err-self-inside-clause-asks : goal.returns-in_err-self-inside-clause-asks
returns-in_err-self-inside-clause-asks g c =
    let p = err_from_is_err_and c.from_residual.result c.from_residual.ensures.1 in
    let before = open_input c.self.view_is c.requires.unended (omega (arith, c.if-self-eq0.false)) in
    rw p.1 (asks_once {A = g.row.A.Denot} (g.R.Source.told c.read_once.new.reader) c.read_once.new.buffer
    (Err c.in_err-self-inside.field-0.0) before c.in_err-self-inside.ensures.asks)

pub returns-clause-asks : goal.returns-clause-asks
returns-clause-asks g c =
    let before = open_input c.self.view_is c.requires.unended (omega (arith, c.if-self-eq0.false)) in
    asks_once {A = g.row.A.Denot} (g.R.Source.told c.read_once.new.reader) c.read_once.new.buffer
    (Ok c.in_ok-self-inside.field-0) before c.in_ok-self-inside.ensures.asks
