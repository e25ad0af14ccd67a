use Rattle.std.proofs.Common.{◌≡◌, ◌∙◌, inl, inr, refl, sym}
use Rattle.std.specs.FinMap as fin
use Rattle.std.proofs.lemmas.Bool.{eqb-true}
use Rattle.std.proofs.lemmas.Result.{err_from_is_err_and}
use Rattle.dotenvy_exporter.proofs.DeclaredNames.{has_declared}
use Rattle.dotenvy_exporter.proofs.declared.declared.Goals as goal

pub returns-in_err-load_all : goal.returns-in_err-load_all
returns-in_err-load_all g c =
    let given = c.from_residual-in_err-load_all in
    let failed = err_from_is_err_and given.result given.ensures.1 in
    let stopped = rw c.new-names.ensures.empty at c.in_err-load_all.ensures.stopped in
    rw (failed.1, failed.2) (inr (fin.empty, inl refl, stopped))

pub returns-in_err-load_all-2 : goal.returns-in_err-load_all-2
returns-in_err-load_all-2 g c =
    let given = c.from_residual-in_err-load_all-2 in
    let failed = err_from_is_err_and given.result given.ensures.1 in
    let first = rw c.new-names.ensures.empty at c.in_ok-load_all.ensures.loads in
    let start = inr (c.load_all.new.names.names, first, c.in_ok-kept.ensures.kept) in
    rw (failed.1, failed.2) (inr (c.in_ok-kept.kept.names, start, c.in_err-load_all-2.ensures.stopped))

pub returns-then-is_empty : goal.returns-then-is_empty
returns-then-is_empty g c =
    let nothing : c.in_ok-kept.kept.names ≡ fin.empty =
    fin.empty_of_len c.in_ok-kept.kept.names
    (eqb-true (fin.len c.in_ok-kept.kept.names) 0 (sym c.is_empty.ensures ∙ c.if-is_empty.true)) in
    let first = rw c.new-names.ensures.empty at c.in_ok-load_all.ensures.loads in
    has_declared c.args.how.now.mode c.args.how.now.dialect c.args.how.now.env.now.names _ c.load_all.new.names.names
    c.in_ok-kept.kept.names c.load_all.new.names.names first c.in_ok-kept.ensures.kept (rw (← nothing) at first)

pub returns : goal.returns
returns g c =
    let first = rw c.new-names.ensures.empty at c.in_ok-load_all.ensures.loads in
    has_declared c.args.how.now.mode c.args.how.now.dialect c.args.how.now.env.now.names _ c.load_all.new.names.names
    c.in_ok-kept.kept.names c.load_all-2.new.names.names first c.in_ok-kept.ensures.kept
    c.in_ok-load_all-2.ensures.loads
