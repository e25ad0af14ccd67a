use Rattle.dotenvy_reports.proofs.Written.{then, wrote, last_token}
use Rattle.dotenvy_reports.proofs.sarif.write_locations.Goals as goal

pub returns : goal.returns
returns g c =
    let h0 = wrote c.key.ensures c.in_ok-key.ensures.ok in
    let h1 = then h0 (wrote c.begin_array.ensures c.in_ok-begin_array.ensures.ok) in
    let h2 = then h1 c.in_ok-write_location.ensures in
    last_token h2 c.end_array.ensures
