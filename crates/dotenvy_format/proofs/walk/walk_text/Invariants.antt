use Rattle.std.proofs.Common.{length}
use denote.Shadow.{shadow}
use denote.Text.{Utf8}
use Rattle.dotenvy_format.specs.inside.Walk.{WalksTo}
use Rattle.dotenvy_format.proofs.walk.walk_text.Given as goal

abbrev pub invariant-walking : goal.invariant-walking
invariant-walking l = WalksTo l.fn.start l.text l.mode l.rest × shadow (Utf8 l.rest)

abbrev pub decreases-walking : goal.decreases-walking
decreases-walking l = length l.rest
