use Rattle.std.proofs.Common.{◌≡◌, vec_len, filter, length, take}
use Rattle.test_comparison.specs.Comparison.{is_difference}
use Rattle.test_comparison.proofs.differences.Given as goal

-- a text for each comparison that differed so far
abbrev pub invariant-comparisons : goal.invariant-comparisons
invariant-comparisons l = vec_len l.found ≡ length (filter is_difference (take l.comparison-index l.fn.comparisons))
