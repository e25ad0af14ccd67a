use Rattle.dotenvy_format.proofs.lines.DecidedFront.{decided_exist, decided_once}
use Rattle.dotenvy_format.proofs.laws.one_decision.Goals as goal

pub returns : goal.returns
returns c =
    λ dialect bytes.
    let e = decided_exist dialect bytes in (e.0, e.1, λ others has. decided_once dialect bytes others e.0 has e.1)
