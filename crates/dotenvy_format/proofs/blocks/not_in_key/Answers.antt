use Rattle.std.proofs.Common.{ℕ, not, bit_and, bit_or, refl, arith}
use Rattle.std.proofs.lemmas.Simd.{zip2_splat, zip2_of_maps, splat_is_map}
use Rattle.dotenvy_format.specs.Characters.{continues_key}
use Rattle.dotenvy_format.proofs.bytes.Masks.{at_most_lane, difference, masked}
use Rattle.dotenvy_format.proofs.blocks.not_in_key.Goals as goal

pub returns : goal.returns
returns c =
    let block = c.args.block in
    let long = c.fits-block.0 in
    let from = λ (count : ℕ). splat_is_map block 16 count long in
    masked _ (λ b. not (continues_key b)) block _ (omega arith) c.fits-block.1 (
    zip2_of_maps bit_and _ _ block (
    zip2_of_maps bit_and _ _ block (
    zip2_of_maps at_most_lane _ _ block (from 26)
    (zip2_of_maps difference _ _ block (zip2_splat bit_or block 16 32 long) (splat_is_map block 16 97 long))
    ) (zip2_of_maps at_most_lane _ _ block (from 10) (zip2_splat difference block 16 48 long))
    ) (
    zip2_of_maps bit_and _ _ block (zip2_splat {Y = ℕ} _ block 16 95 long) (zip2_splat {Y = ℕ} _ block 16 46 long)
    )
    ) refl
