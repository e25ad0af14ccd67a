use Rattle.std.proofs.Common.{length}
use Rattle.dotenvy_format.specs.inside.Slices.{has_character}
use Rattle.dotenvy_format.proofs.bytes.ByteRuns.{Passed}
use denote.Text.{Utf8}
use denote.Shadow.{shadow}
use Rattle.dotenvy_format.proofs.text.split_while.Given as goal

-- what stands before the rest passes
abbrev pub invariant-runs : goal.invariant-runs
invariant-runs l = shadow (Utf8 l.rest) × Passed (has_character l.fn.class) l.fn.text l.rest

abbrev pub decreases-runs : goal.decreases-runs
decreases-runs l = length l.rest
