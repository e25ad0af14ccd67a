use Rattle.dotenvy_reports.proofs.Written.{then, wrote, last_token}
use Rattle.dotenvy_reports.proofs.sarif.write_start.Goals as goal

pub returns : goal.returns
returns g c =
    let h0 = wrote c.begin_object.ensures c.in_ok-begin_object.ensures.ok in
    let h1 = then h0 c.in_ok-write_document.ensures in
    let h2 = then h1 (wrote c.key.ensures c.in_ok-key.ensures.ok) in
    let h3 = then h2 (wrote c.begin_array.ensures c.in_ok-begin_array.ensures.ok) in
    let h4 = then h3 (wrote c.begin_object-2.ensures c.in_ok-begin_object-2.ensures.ok) in
    let h5 = then h4 c.in_ok-write_tool.ensures in
    let h6 = then h5 c.in_ok-write_text.ensures in
    let h7 = then h6 (wrote c.key-2.ensures c.in_ok-key-2.ensures.ok) in
    last_token h7 c.begin_array-2.ensures
