use Rattle.std.proofs.Common.{ℕ, not, bit_or, refl, arith}
use Rattle.std.proofs.lemmas.Simd.{zip2_splat, zip2_of_maps, splat_is_map}
use Rattle.dotenvy_format.specs.inside.Slices.{is_token_byte}
use Rattle.dotenvy_format.proofs.bytes.Masks.{below_lane, difference, same_lane, masked}
use Rattle.dotenvy_format.proofs.blocks.not_token.Goals as goal

pub returns : goal.returns
returns c =
    let block = c.args.block in
    let long = c.fits-block.0 in
    let is = λ (b : ℕ). zip2_splat same_lane block 16 b long in
    let below = λ (from count : ℕ).
    zip2_of_maps below_lane _ _ block (zip2_splat difference block 16 from long) (splat_is_map block 16 count long) in
    masked _ (λ b. not (is_token_byte b)) block _ (omega arith) c.fits-block.1 (
    zip2_of_maps bit_or _ _ block (
    zip2_of_maps bit_or _ _ block (
    zip2_of_maps bit_or _ _ block (zip2_of_maps bit_or _ _ block (is 39) (is 34))
    (zip2_of_maps bit_or _ _ block (is 92) (is 32))
    ) (below 9 4)
    ) (zip2_of_maps bit_or _ _ block (is 194) (below 225 3))
    ) refl
