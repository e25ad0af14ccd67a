use Rattle.std.proofs.Common.{◌≡◌, map, take}
use Rattle.dotenvy_checker.specs.Words.{kinds_of}
use Rattle.dotenvy_checker.proofs.options.kinds_named.Given as goal

-- the kinds of the names up to this one are there
abbrev pub invariant-names : goal.invariant-names
invariant-names g l = l.kinds.items ≡ kinds_of (map (λ name. name.now) (take l.name-index l.fn.names))
