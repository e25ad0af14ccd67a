use Rattle.std.proofs.Common.{◌≡◌, ◌++◌, drop, map}
use Rattle.dotenvy_words.specs.Found.{texts}
use Rattle.dotenvy_edit_command.proofs.words.copies.Given as goal

-- the copies so far, and the texts that are left, are all
abbrev pub invariant-names : goal.invariant-names
invariant-names g l =
    texts l.all.items ++ map (λ name. name.now) (drop l.name-index l.names)
    ≡ map (λ name. name.now) l.names
