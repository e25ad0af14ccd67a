use Rattle.std.proofs.Common.{Ok, Err, rules, ◌≡◌}
use Rattle.dotenvy_items.proofs.LineLoads.{absent_sets}
use Rattle.dotenvy_items.proofs.loads.Mode.set.Goals as goal

pub returns-in_err-looks_first-in-Keep-clause-sets : goal.returns-in_err-looks_first-in-Keep-clause-sets
returns-in_err-looks_first-in-Keep-clause-sets g c =
    let by = c.in_err-looks_first-in-Keep.ensures in
    let same : c.from_residual.result ≡ Err c.in_err-looks_first-in-Keep.field-0.0 = search rules in
    rw (same, c.in-Keep.is) (absent_sets {pair = (c.args.key, c.args.value)}
    (Err c.in_err-looks_first-in-Keep.field-0.0) (record {
      kept = by.kept;
      ok = by.ok;
      same = by.same;
      good = by.good;
      nul = by.nul;
    }))

pub returns-in_ok-looks_first-in-Keep-clause-sets : goal.returns-in_ok-looks_first-in-Keep-clause-sets
returns-in_ok-looks_first-in-Keep-clause-sets g c =
    let by = c.in_ok-looks_first-in-Keep.ensures in
    rw c.in-Keep.is (absent_sets {pair = (c.args.key, c.args.value)} (Ok c.in_ok-looks_first-in-Keep.field-0) (record {
      kept = by.kept;
      ok = by.ok;
      same = tt;
      good = by.good;
      nul = by.nul;
    }))
