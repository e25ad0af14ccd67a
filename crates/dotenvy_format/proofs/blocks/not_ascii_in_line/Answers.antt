use Rattle.std.proofs.Common.{not, bit_or, refl, sym, arith}
use Rattle.std.proofs.lemmas.List.{map-id}
use Rattle.std.proofs.lemmas.Simd.{zip2_splat, zip2_of_maps, splat_is_map}
use Rattle.dotenvy_format.specs.inside.Slices.{is_ascii_in_line}
use Rattle.dotenvy_format.proofs.bytes.Masks.{at_most_lane, same_lane, masked}
use Rattle.dotenvy_format.proofs.blocks.not_ascii_in_line.Goals as goal

pub returns : goal.returns
returns c =
    let block = c.args.block in
    let long = c.fits-block.0 in
    masked _ (λ b. not (is_ascii_in_line b)) block _ (omega arith) c.fits-block.1 (
    zip2_of_maps bit_or _ _ block
    (zip2_of_maps at_most_lane _ _ block (splat_is_map block 16 128 long) (sym (map-id block)))
    (zip2_splat same_lane block 16 10 long)
    ) refl
