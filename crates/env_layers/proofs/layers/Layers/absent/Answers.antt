use Rattle.std.proofs.Common.{arith, rules}
use Rattle.std.proofs.lemmas.Grind.{common_steps}
use Rattle.env_layers.proofs.Absent.{fails_with_absent}
use Rattle.env_layers.proofs.layers.Layers.absent.Goals as goal

pub names-preserved : goal.names-preserved
names-preserved g c = grind (arith, common_steps)

pub returns-in_err-clone-clause-err : goal.returns-in_err-clone-clause-err
returns-in_err-clone-clause-err g c =
    rw (← c.self.view_is)
    (fails_with_absent c.self.inside.env.names c.args.names.now c.names.name-index _ _ c.contains.result
    c.names-test.true c.contains.ensures (search rules))

pub returns-in_err-name-clause-err : goal.returns-in_err-name-clause-err
returns-in_err-name-clause-err g c =
    rw (← c.self.view_is)
    (fails_with_absent c.self.inside.env.names c.args.names.now c.names.name-index _ _ c.contains.result
    c.names-test.true c.contains.ensures (search rules))

pub returns-in_err-push-clause-err : goal.returns-in_err-push-clause-err
returns-in_err-push-clause-err g c =
    rw (← c.self.view_is)
    (fails_with_absent c.self.inside.env.names c.args.names.now c.names.name-index _ _ c.contains.result
    c.names-test.true c.contains.ensures (search rules))
