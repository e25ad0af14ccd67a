use Rattle.dotenvy_reports.proofs.Written.{then, wrote, last_token}
use Rattle.dotenvy_reports.proofs.rules.write_rule.Goals as goal

pub returns : goal.returns
returns g c =
    let opened = wrote c.begin_object.ensures c.in_ok-begin_object.ensures.ok in
    let whole = then (then opened c.in_ok-write_text.ensures) c.in_ok-write_text_object.ensures in
    last_token whole c.end_object.ensures
