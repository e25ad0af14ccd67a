use Rattle.dotenvy_reports.proofs.Written.{then, last}
use Rattle.dotenvy_reports.proofs.sarif.write_found.Goals as goal

pub returns : goal.returns
returns g c =
    let named = then c.in_ok-write_text.ensures c.in_ok-write_text-2.ensures in
    let told = last c.write_text_object.result c.write_text_object.new.writer _ named c.write_text_object.ensures in
    rw (c.rule_of.ensures, c.name.ensures, c.as_str.ensures.value, c.in_ok-message.ensures) at told
