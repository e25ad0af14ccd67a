use Rattle.std.proofs.Common.{refl}
use Rattle.std.proofs.lemmas.Str.{IsUtf8-string_bytes}
use Rattle.std.proofs.lemmas.Result.{err_from_is_err_and}
use Rattle.dotenvy_items.specs.Remembered.{remembered_of}
use Rattle.dotenvy_items.specs.inside.LoadStep.{mode_of}
use Rattle.dotenvy_items.proofs.KeyBytes.{name_ok-key}
use Rattle.dotenvy_items.proofs.LineLoads.{fault_loaded, declared_loaded, set_loaded, set_keeps, set_changes}
use Rattle.dotenvy_items.proofs.loads.load_line.Goals as goal

pub returns-in_err-declaration-clause-loads : goal.returns-in_err-declaration-clause-loads
returns-in_err-declaration-clause-loads g c =
    let p = err_from_is_err_and c.from_residual.result c.from_residual.ensures.1 in
    rw (p.1, p.2) (fault_loaded (mode_of c.args.mode.now) (remembered_of c.args.remembered.now.entries)
    c.in_err-declaration.ensures.fault)

pub returns-then-passes_by-clause-loads : goal.returns-then-passes_by-clause-loads
returns-then-passes_by-clause-loads g c =
    declared_loaded (mode_of c.args.mode.now) (remembered_of c.args.remembered.now.entries)
    (rw c.in-Some.is at c.in_ok-declaration.ensures.declared) (c.passes_by.ensures c.if-passes_by.true) refl
    (record { values = λ n. refl; is_answer = tt })

pub pair_of-requires : goal.pair_of-requires
pair_of-requires g c =
    let declared = rw c.in-Some.is at c.in_ok-declaration.ensures.declared in
    (declared.rest, declared.pieces, declared.is_assigned)

pub set-requires : goal.set-requires
set-requires g c =
    let declared = rw c.in-Some.is at c.in_ok-declaration.ensures.declared in
    let pair = c.in_ok-key.ensures.pair declared.rest declared.pieces declared.is_assigned in
    name_ok-key _ (IsUtf8-string_bytes c.in_ok-key.key) (rw pair.key declared.statement.is_key)

pub returns-clause-loads : goal.returns-clause-loads
returns-clause-loads g c =
    let declared = rw c.in-Some.is at c.in_ok-declaration.ensures.declared in
    set_loaded (mode_of c.args.mode.now) (remembered_of c.args.remembered.now.entries) declared
    (c.in_ok-key.ensures.pair declared.rest declared.pieces declared.is_assigned) c.set.ensures.sets

pub returns-clause-keeps : goal.returns-clause-keeps
returns-clause-keeps g c = set_keeps c.set.ensures.sets

pub returns-clause-changes : goal.returns-clause-changes
returns-clause-changes g c =
    let declared = rw c.in-Some.is at c.in_ok-declaration.ensures.declared in
    let pair = c.in_ok-key.ensures.pair declared.rest declared.pieces declared.is_assigned in
    set_changes (rw pair.key declared.statement.is_key) c.set.ensures.sets
