use Rattle.dotenvy_reports.proofs.Written.{then, wrote, last_token}
use Rattle.dotenvy_reports.proofs.sarif.write_driver.Goals as goal

pub returns : goal.returns
returns g c =
    let h0 = c.in_ok-write_text.ensures in
    let h1 = then h0 c.in_ok-write_text-2.ensures in
    let h2 = then h1 (wrote c.key.ensures c.in_ok-key.ensures.ok) in
    let h3 = then h2 (wrote c.begin_array.ensures c.in_ok-begin_array.ensures.ok) in
    let h4 = then h3 c.in_ok-write_rules.ensures in
    last_token h4 c.end_array.ensures
