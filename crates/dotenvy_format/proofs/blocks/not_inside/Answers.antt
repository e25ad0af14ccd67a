use Rattle.std.proofs.Common.{ℕ, bit_or, arith}
use Rattle.std.proofs.lemmas.Simd.{zip2_splat, zip2_of_maps}
use Rattle.dotenvy_format.proofs.bytes.Masks.{same_lane, masked_three}
use Rattle.dotenvy_format.proofs.blocks.not_inside.Goals as goal

pub returns : goal.returns
returns c =
    let block = c.args.block in
    let long = c.fits-block.0 in
    let is = λ (b : ℕ). zip2_splat same_lane block 16 b long in
    masked_three 92 34 36 block _ (omega arith) (
    zip2_of_maps bit_or _ _ block (
    zip2_of_maps bit_or _ _ block (is 92) (is 34)
    ) (is 36)
    )
