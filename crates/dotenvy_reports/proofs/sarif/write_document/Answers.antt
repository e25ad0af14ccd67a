use Rattle.dotenvy_reports.proofs.Written.{last}
use Rattle.dotenvy_reports.proofs.sarif.write_document.Goals as goal

pub returns : goal.returns
returns g c =
    let h0 = c.in_ok-write_text.ensures in
    last c.write_text-2.result c.write_text-2.new.writer _ h0 c.write_text-2.ensures
