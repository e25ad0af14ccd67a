use Rattle.std.proofs.Common.{◌≡◌, rules}
use Rattle.test_witnesses.proofs.PieceLists.{adds_bytes}
use Rattle.test_witnesses.proofs.source.push_bytes.Goals as goal

pub returns : goal.returns
returns c = λ before all.
    let same : c.in_ok-to_vec.field-0.items ≡ c.args.bytes.now = search rules in
    rw (c.in_ok-push.ensures.items, ← same) (adds_bytes c.args.pieces.now.items c.in_ok-to_vec.field-0 before all)
