use Rattle.std.proofs.Common.{◌≡◌, map, take}
use Rattle.dotenvy_words.specs.Found.{texts}
use Rattle.dotenvy_checker.proofs.options.copied.Given as goal

-- the names up to this one are copied
abbrev pub invariant-names : goal.invariant-names
invariant-names g l = texts l.copies.items ≡ map (λ name. name.now) (take l.name-index l.fn.names)
