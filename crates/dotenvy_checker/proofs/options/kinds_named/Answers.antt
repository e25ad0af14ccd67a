use Rattle.std.proofs.Common.{arith}
use Rattle.std.proofs.lemmas.Grind.{common_steps}
use Rattle.std.proofs.lemmas.List.Elements.{filter_map-append}
use Rattle.dotenvy_checker.proofs.options.kinds_named.Goals as goal

pub names-preserved : goal.names-preserved
names-preserved g c =
    grind (arith, common_steps, filter_map-append, c.names.invariant, c.in_ok-push_kind.ensures)
