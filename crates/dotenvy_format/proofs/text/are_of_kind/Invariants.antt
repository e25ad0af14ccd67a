use Rattle.std.proofs.Common.{◌≡◌, length}
use Rattle.dotenvy_format.specs.inside.Slices.{PassesBytes, is_of_kind}
use Rattle.dotenvy_format.proofs.text.are_of_kind.Given as goal

-- where no byte of another kind was met, those before the rest are of the kind
abbrev pub invariant-masks : goal.invariant-masks
invariant-masks l = l.others ≡ 0 → PassesBytes (is_of_kind l.fn.kind) l.fn.chunk l.rest

abbrev pub decreases-masks : goal.decreases-masks
decreases-masks l = length l.rest
