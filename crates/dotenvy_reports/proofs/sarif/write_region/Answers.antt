use Rattle.dotenvy_reports.proofs.Written.{then, wrote, last_token}
use Rattle.dotenvy_reports.proofs.sarif.write_region.Goals as goal

pub returns-in_ok-write_number-in-Some-2 : goal.returns-in_ok-write_number-in-Some-2
returns-in_ok-write_number-in-Some-2 g c =
    let named = wrote c.key.ensures c.in_ok-key-in-Some.ensures.ok in
    let opened = then named (wrote c.begin_object.ensures c.in_ok-begin_object-in-Some.ensures.ok) in
    let placed = then (then opened c.in_ok-write_number-in-Some.ensures) c.in_ok-write_number-in-Some-2.ensures in
    rw c.in-Some.is (last_token placed c.end_object.ensures)
