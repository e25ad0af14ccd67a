use Rattle.std.proofs.Common.{◌≡◌, length}
use Rattle.dotenvy_words.specs.Found.{texts}
use Rattle.dotenvy_checker.specs.Folders.{is_among}
use Rattle.dotenvy_checker.proofs.folder.is_among.Given as goal

-- what is left decides the result
abbrev pub invariant-names : goal.invariant-names
invariant-names g l = is_among (texts l.rest) l.fn.name ≡ is_among (texts l.fn.names) l.fn.name

abbrev pub decreases-names : goal.decreases-names
decreases-names g l = length l.rest
