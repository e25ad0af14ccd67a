use Rattle.std.proofs.Common.{◌≡◌, take}
use Rattle.dotenvy_words.specs.Found.{texts}
use Rattle.dotenvy_checker.specs.Folders.{paths_in}
use Rattle.dotenvy_checker.proofs.folder.paths_in.Given as goal

-- the names up to this one have their paths
abbrev pub invariant-names : goal.invariant-names
invariant-names g l = texts l.paths.items ≡ paths_in l.fn.folder (texts (take l.name-index l.fn.names))
