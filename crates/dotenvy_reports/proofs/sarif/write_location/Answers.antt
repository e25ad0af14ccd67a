use Rattle.dotenvy_reports.proofs.Written.{then, wrote, last_token}
use Rattle.dotenvy_reports.proofs.sarif.write_location.Goals as goal

pub returns : goal.returns
returns g c =
    let h0 = wrote c.begin_object.ensures c.in_ok-begin_object.ensures.ok in
    let h1 = then h0 (wrote c.key.ensures c.in_ok-key.ensures.ok) in
    let h2 = then h1 (wrote c.begin_object-2.ensures c.in_ok-begin_object-2.ensures.ok) in
    let h3 = then h2 c.in_ok-write_text_object.ensures in
    let h4 = then h3 c.in_ok-write_region.ensures in
    let h5 = then h4 (wrote c.end_object.ensures c.in_ok-end_object.ensures.ok) in
    let told = last_token h5 c.end_object-2.ensures in
    rw (c.as_str.ensures.value, c.in_ok-file.ensures) at told
