use Rattle.std.proofs.Common.{rules, ◌≡◌, ◌∙◌, not, sym, arith}
use Rattle.std.proofs.lemmas.Nat.{le_or_l, le_or_r}
use Rattle.dotenvy_format.specs.inside.Slices.{is_of_kind}
use Rattle.dotenvy_format.proofs.bytes.Masks.{none_set}
use Rattle.dotenvy_format.proofs.bytes.ByteRuns.{passed_nothing, passes_block}
use Rattle.dotenvy_format.proofs.text.are_of_kind.Goals as goal

pub masks-init : goal.masks-init
masks-init c = λ none. passed_nothing c.args.chunk.now

pub masks-preserved : goal.masks-preserved
masks-preserved c = λ none.
    let mask = c.others_in-others.result in
    let before : c.masks.others ≡ 0 = omega (arith, none, le_or_l c.masks.others mask) in
    let here : mask ≡ 0 = omega (arith, none, le_or_r c.masks.others mask) in
    passes_block c.in-Some.block.now (c.masks.invariant before) (search rules)
    (none_set (λ b. not (is_of_kind c.args.kind b)) c.in-Some.block.now (sym c.others_in-others.ensures ∙ here))
