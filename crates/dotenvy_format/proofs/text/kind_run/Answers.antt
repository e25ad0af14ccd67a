use Rattle.std.proofs.Common.{rules, ◌≡◌, ◌++◌, ◌∙◌, sym, None, length, Fits, w64, arith}
use Rattle.std.proofs.lemmas.List.Sums.{prefix_len-le-length}
use Rattle.dotenvy_format.specs.inside.Slices.{is_of_kind}
use Rattle.dotenvy_format.proofs.bytes.ByteRuns.{passes_block, passes_both, run_in_block}
use Rattle.dotenvy_format.proofs.text.kind_run.Goals as goal

pub returns-in-Some-block_end : goal.returns-in-Some-block_end
returns-in-Some-block_end c =
    let parts : c.search.rest.now ≡ c.in-Some.block.now ++ c.in-Some.after.now = search rules in
    run_in_block c.in-Some.block.now c.in-Some.after.now c.search.invariant parts
    (sym c.in-Some-block_end.is ∙ c.block_end.ensures)

pub overflow_add-result : goal.overflow_add-result
overflow_add-result c =
    let parts : c.search.rest.now ≡ c.in-Some.block.now ++ c.in-Some.after.now = search rules in
    let bound : Fits w64 (length c.args.bytes.now) = search rules in
    let most = prefix_len-le-length (is_of_kind c.args.kind) c.args.bytes.now in
    rw (run_in_block c.in-Some.block.now c.in-Some.after.now c.search.invariant parts
    (sym c.in-Some-block_end.is ∙ c.block_end.ensures))
    (omega arith)

pub search-preserved-then-is_far : goal.search-preserved-then-is_far
search-preserved-then-is_far c =
    let none : c.block_end.result ≡ None = c.in_default-block_end.is in
    passes_both (passes_block c.in-Some.block.now c.search.invariant (search rules) (rw c.block_end.ensures at none))
    c.after_blocks-rest.ensures

pub search-preserved : goal.search-preserved
search-preserved c =
    let none : c.block_end.result ≡ None = c.in_default-block_end.is in
    passes_block c.in-Some.block.now c.search.invariant (search rules) (rw c.block_end.ensures at none)
