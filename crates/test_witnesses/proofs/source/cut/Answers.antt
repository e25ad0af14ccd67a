use Rattle.test_witnesses.proofs.PieceLists.{ahead_ends}
use Rattle.test_witnesses.proofs.source.cut.Goals as goal

pub returns : goal.returns
returns c = λ end.
    let h = c.lengths.invariant in
    ahead_ends c.push_bytes-2.new.pieces.items c.args.bytes.now end
    (rw h.2 at (c.in_ok-push_bytes-2.ensures h.0 h.1))
