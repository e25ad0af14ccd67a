use Rattle.std.proofs.Common.{◌≡◌, false}
use Rattle.dotenvy_base.proofs.TextMaps.{of_pairs}
use Rattle.dotenvy_base.proofs.environment.Environment.from_pairs.Given as goal

-- the first good pair of each name so far, and no mark
abbrev pub invariant-loop-name : goal.invariant-loop-name
invariant-loop-name g l = record {
  names : l.env.names ≡ of_pairs l.yielded;
  mark : l.env.loaded ≡ false;
}
