use Rattle.std.proofs.lemmas.Result.{err_from_is_err_and}
use Rattle.env_layers.proofs.Absent.{answers_failed}
use Rattle.env_layers.proofs.layers.Layers.require.Goals as goal

pub returns-in_err-absent : goal.returns-in_err-absent
returns-in_err-absent g c =
    let p = err_from_is_err_and c.from_residual.result c.from_residual.ensures.1 in
    rw p.1 (answers_failed _ p.0 c.in_err-absent.ensures.err p.2)
