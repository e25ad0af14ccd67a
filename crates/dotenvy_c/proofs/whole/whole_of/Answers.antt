use Rattle.std.proofs.Common.{Fits, ap, arith, length, rules, w64}
use Rattle.dotenvy_c.proofs.WholeFits.{asked_fits, whole_fits}
use Rattle.dotenvy_c.proofs.whole.whole_of.Goals as goal

pub overflow_add-result : goal.overflow_add-result
overflow_add-result c =
    let bound : Fits w64 (length c.args.file.now) = search rules in
    let asked = asked_fits c.args.options c.args.file.now in
    let same = ap length c.bytes_of-bytes.ensures in
    let within = whole_fits c.in_ok-len.ensures in
    omega (arith, bound, asked, same, within)
