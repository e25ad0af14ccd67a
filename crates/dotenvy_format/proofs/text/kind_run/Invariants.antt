use Rattle.std.proofs.Common.{length}
use Rattle.dotenvy_format.specs.inside.Slices.{PassesBytes, is_of_kind}
use Rattle.dotenvy_format.proofs.text.kind_run.Given as goal

-- the bytes before the rest are of the kind
abbrev pub invariant-search : goal.invariant-search
invariant-search l = PassesBytes (is_of_kind l.fn.kind) l.fn.bytes l.rest

abbrev pub decreases-search : goal.decreases-search
decreases-search l = length l.rest
