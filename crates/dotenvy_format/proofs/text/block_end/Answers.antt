use Rattle.std.proofs.Common.{◌<◌, ℕ, not, sym, ◌∙◌, arith}
use Rattle.dotenvy_format.specs.inside.Slices.{is_of_kind}
use Rattle.dotenvy_format.proofs.bytes.Masks.{none_set, lowest_set}
use Rattle.dotenvy_format.proofs.text.block_end.Goals as goal

pub returns-then-others-eq0 : goal.returns-then-others-eq0
returns-then-others-eq0 c =
    sym (none_set (λ b. not (is_of_kind c.args.kind b)) c.args.block
    (sym c.others_in-others.ensures ∙ c.if-others-eq0.true))

pub returns-else-others-eq0 : goal.returns-else-others-eq0
returns-else-others-eq0 c =
    let test = λ (b : ℕ). not (is_of_kind c.args.kind b) in
    let some : 0 < c.others_in-others.result = omega (arith, c.if-others-eq0.false) in
    rw c.others_in-others.ensures (sym (lowest_set test c.args.block (omega (arith, c.fits-block.0))
    (rw c.others_in-others.ensures at some)))
