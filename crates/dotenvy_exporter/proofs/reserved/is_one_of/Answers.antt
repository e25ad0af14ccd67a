use Rattle.std.proofs.Common.{◌∙◌}
use Rattle.dotenvy_exporter.proofs.ReservedNames.{is_found}
use Rattle.dotenvy_exporter.proofs.reserved.is_one_of.Goals as goal

pub returns : goal.returns
returns c =
    c.is_ok.ensures.value
    ∙ is_found (λ kept. kept.now) c.args.names.now c.args.name.now c.binary_search.result c.requires
    c.binary_search.ensures.bound c.binary_search.ensures.position
