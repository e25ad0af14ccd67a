use Rattle.std.proofs.Common.{◌≡◌, ◌+◌, filter, length}
use Rattle.dotenvy_format.specs.Written.{needs_backslash}
use Rattle.dotenvy_items.proofs.written.special_count.Given as goal

-- what was counted, with those that are left, is all of them
abbrev pub invariant-runs : goal.invariant-runs
invariant-runs l =
    l.count + length (filter needs_backslash l.rest) ≡ length (filter needs_backslash l.fn.bytes)

abbrev pub decreases-runs : goal.decreases-runs
decreases-runs l = length l.rest
