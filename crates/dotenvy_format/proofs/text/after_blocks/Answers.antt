use Rattle.dotenvy_format.proofs.bytes.ByteRuns.{cut_parts, passed_nothing, passes_more}
use Rattle.dotenvy_format.proofs.text.after_blocks.Goals as goal

pub runs-init : goal.runs-init
runs-init c = passed_nothing c.args.bytes.now

pub runs-preserved : goal.runs-preserved
runs-preserved c =
    passes_more c.in-Some.chunk.now c.runs.invariant
    (cut_parts 64 c.in-Some.ensures.cases.0 c.in-Some.ensures.cases.1) (c.are_of_kind.ensures c.if-not-are_of_kind.false)
