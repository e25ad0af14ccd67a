use Rattle.std.proofs.Common.{refl, sym}
use Rattle.std.proofs.lemmas.Result.{err_from_is_err_and}
use Rattle.dotenvy_format.specs.declared.dialect.Dialect.TheVariants.{V15}
use Rattle.dotenvy_format.specs.Run.{Replace}
use Rattle.dotenvy_format.proofs.loads.LoadLaws.{run-replace}
use Rattle.dotenvy_items.specs.Iter.{fresh}
use Rattle.dotenvy_items.proofs.StoppedLoads.{loads_by, loads_refused, same_rule}
use Rattle.dotenvy_items.proofs.iter.from_read_override.Goals as goal

pub returns-in_err-new-clause-in_turn : goal.returns-in_err-new-clause-in_turn
returns-in_err-new-clause-in_turn g c =
    let p = err_from_is_err_and c.from_residual.result c.from_residual.ensures.1 in
    rw (p.1, p.2) (loads_refused Replace (fresh (g.R.Source.told c.args.reader) V15) c.in_err-new.ensures.memory)

pub returns-in_err-new-clause-told : goal.returns-in_err-new-clause-told
returns-in_err-new-clause-told g c =
    loads_by (fresh (g.R.Source.told c.args.reader) V15) c.args.env.now.names (same_rule run-replace)
    (returns-in_err-new-clause-in_turn g c)

pub returns-clause-told : goal.returns-clause-told
returns-clause-told g c = (rw c.in_ok-new.ensures.ok at c.load_override.ensures.told) refl

pub returns-clause-in_turn : goal.returns-clause-in_turn
returns-clause-in_turn g c =
    loads_by (fresh (g.R.Source.told c.args.reader) V15) c.args.env.now.names (sym (same_rule run-replace))
    (returns-clause-told g c)
