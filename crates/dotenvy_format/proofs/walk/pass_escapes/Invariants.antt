use Rattle.std.proofs.Common.{length}
use denote.Shadow.{shadow}
use denote.Text.{Utf8}
use Rattle.dotenvy_format.specs.inside.Walk.{WalksTo}
use Rattle.dotenvy_format.proofs.walk.pass_escapes.Given as goal

abbrev pub invariant-escapes : goal.invariant-escapes
invariant-escapes l = WalksTo l.fn.mode l.text l.fn.mode l.rest × shadow (Utf8 l.rest)

abbrev pub decreases-escapes : goal.decreases-escapes
decreases-escapes l = length l.rest
