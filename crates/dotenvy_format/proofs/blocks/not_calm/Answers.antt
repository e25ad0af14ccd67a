use Rattle.std.proofs.Common.{ℕ, not, bit_or, refl, arith}
use Rattle.std.proofs.lemmas.Simd.{zip2_splat, zip2_of_maps}
use Rattle.dotenvy_format.specs.inside.Slices.{is_calm}
use Rattle.dotenvy_format.proofs.bytes.Masks.{same_lane, masked}
use Rattle.dotenvy_format.proofs.blocks.not_calm.Goals as goal

pub returns : goal.returns
returns c =
    let block = c.args.block in
    let long = c.fits-block.0 in
    let is = λ (b : ℕ). zip2_splat same_lane block 16 b long in
    masked _ (λ b. not (is_calm b)) block _ (omega arith) c.fits-block.1 (
    zip2_of_maps bit_or _ _ block (
    zip2_of_maps bit_or _ _ block (zip2_of_maps bit_or _ _ block (is 39) (is 34))
    (zip2_of_maps bit_or _ _ block (is 92) (is 35))
    ) (is 10)
    ) refl
