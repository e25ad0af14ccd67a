use Rattle.std.proofs.Common.{length}
use Rattle.dotenvy_format.specs.inside.Slices.{PassesBytes, is_of_kind}
use Rattle.dotenvy_format.proofs.text.after_blocks.Given as goal

-- the bytes before the rest are of the kind
abbrev pub invariant-runs : goal.invariant-runs
invariant-runs l = PassesBytes (is_of_kind l.fn.kind) l.fn.bytes l.rest

abbrev pub decreases-runs : goal.decreases-runs
decreases-runs l = length l.rest
