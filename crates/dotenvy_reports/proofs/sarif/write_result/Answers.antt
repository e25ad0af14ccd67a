use Rattle.dotenvy_reports.proofs.Written.{then, wrote, last_token}
use Rattle.dotenvy_reports.proofs.sarif.write_result.Goals as goal

pub returns : goal.returns
returns g c =
    let h0 = wrote c.begin_object.ensures c.in_ok-begin_object.ensures.ok in
    let h1 = then h0 c.in_ok-write_found.ensures in
    let h2 = then h1 c.in_ok-write_locations.ensures in
    last_token h2 c.end_object.ensures
