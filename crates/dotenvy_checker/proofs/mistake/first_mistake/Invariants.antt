use Rattle.std.proofs.Common.{◌≡◌, drop, map}
use Rattle.dotenvy_checker.specs.Words.{first_mistake}
use Rattle.dotenvy_checker.proofs.mistake.first_mistake.Given as goal

-- this value and those behind it decide the result
abbrev pub invariant-values : goal.invariant-values
invariant-values l =
    first_mistake l.option (map (λ value. value.now) (drop l.value-index l.values))
    ≡ first_mistake l.option (map (λ value. value.now) l.values)
