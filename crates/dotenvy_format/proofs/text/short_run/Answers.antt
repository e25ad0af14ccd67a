use Rattle.std.proofs.Common.{rules, ◌≡◌, ◌≤◌, ◌++◌, ◌∙◌, ap, sym, length, length-append, Fits, w64, arith}
use Rattle.std.proofs.lemmas.List.Sums.{prefix_len-le-length}
use Rattle.dotenvy_format.specs.inside.Slices.{is_of_kind}
use Rattle.dotenvy_format.proofs.bytes.ByteRuns.{cut_parts, run_behind, run_in_last}
use Rattle.dotenvy_format.proofs.text.short_run.Goals as goal

pub returns-in-Some-block_end : goal.returns-in-Some-block_end
returns-in-Some-block_end c =
    let parts : c.args.bytes.now ≡ c.in-Some.front.now ++ c.in-Some.block.now =
    cut_parts _ c.in-Some.ensures.cases.0 c.in-Some.ensures.cases.1 in
    let less : length c.args.rest.now ≤ length c.in-Some.block.now =
    omega (
      arith,
      c.if-rest-le16.true,
      c.in-Some.ensures.cases.2,
      ap length parts,
      length-append c.in-Some.front.now c.in-Some.block.now,
    ) in
    run_in_last c.in-Some.front.now c.in-Some.block.now c.requires parts less
    (sym c.in-Some-block_end.is ∙ c.block_end.ensures)

pub overflow_add-result : goal.overflow_add-result
overflow_add-result c =
    let parts : c.args.bytes.now ≡ c.in-Some.front.now ++ c.in-Some.block.now =
    cut_parts _ c.in-Some.ensures.cases.0 c.in-Some.ensures.cases.1 in
    let less : length c.args.rest.now ≤ length c.in-Some.block.now =
    omega (
      arith,
      c.if-rest-le16.true,
      c.in-Some.ensures.cases.2,
      ap length parts,
      length-append c.in-Some.front.now c.in-Some.block.now,
    ) in
    let bound : Fits w64 (length c.args.bytes.now) = search rules in
    let most = prefix_len-le-length (is_of_kind c.args.kind) c.args.bytes.now in
    rw (run_in_last c.in-Some.front.now c.in-Some.block.now c.requires parts less
    (sym c.in-Some-block_end.is ∙ c.block_end.ensures))
    (omega arith)

pub returns-in-None : goal.returns-in-None
returns-in-None c =
    let parts : c.args.bytes.now ≡ c.in-Some.front.now ++ c.in-Some.block.now =
    cut_parts _ c.in-Some.ensures.cases.0 c.in-Some.ensures.cases.1 in
    let size = ap length parts in
    let both = length-append c.in-Some.front.now c.in-Some.block.now in
    let less : length c.args.rest.now ≤ length c.in-Some.block.now =
    omega (arith, c.if-rest-le16.true, c.in-Some.ensures.cases.2, size, both) in
    let whole = run_in_last c.in-Some.front.now c.in-Some.block.now c.requires parts less
    (sym c.in-None.is ∙ c.block_end.ensures) in
    omega (arith, whole, size, both)

pub overflow_add-result-in_default : goal.overflow_add-result-in_default
overflow_add-result-in_default c =
    let bound : Fits w64 (length c.args.bytes.now) = search rules in
    let most = prefix_len-le-length (is_of_kind c.args.kind) c.args.bytes.now in
    rw (c.unwrap_or.ensures, run_behind c.requires c.kind_end.ensures) (omega arith)

pub returns-in_default : goal.returns-in_default
returns-in_default c = rw c.unwrap_or.ensures (run_behind c.requires c.kind_end.ensures)
