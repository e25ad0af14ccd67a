use Rattle.dotenvy_format.proofs.lines.EntriesOnce.{entries_exist, entries_once}
use Rattle.dotenvy_format.proofs.laws.one_reading.Goals as goal

pub returns : goal.returns
returns c =
    λ dialect bytes.
    let e = entries_exist dialect bytes in (e.0, e.1, λ others has. entries_once dialect bytes others e.0 has e.1)
