use Rattle.std.proofs.lemmas.Result.{err_from_is_err_and}
use Rattle.dotenvy.specs.Dialect.TheVariants.{V15}
use Rattle.dotenvy.specs.Iter.{fresh}
use Rattle.env_layers.proofs.Added.{adds_none}
use Rattle.env_layers.proofs.layers.Layers.add.Goals as goal

pub returns-in_err-new-clause-told : goal.returns-in_err-new-clause-told
returns-in_err-new-clause-told g c =
    let p = err_from_is_err_and c.from_residual.result c.from_residual.ensures.1 in
    rw (p.1, p.2)
    (adds_none c.args.mode (fresh (g.R.Source.told c.args.reader) V15) c.args.self.now.names
    c.in_err-new.field-0.0 c.in_err-new.ensures.memory)
