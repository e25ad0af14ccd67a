use Rattle.std.proofs.Common.{◌≡◌, ◌++◌, drop, map}
use Rattle.dotenvy_export_command.specs.Files.{placed, placed_of}
use Rattle.dotenvy_export_command.proofs.files.with_places.Given as goal

-- the names up to this one have their places, and the places that are left are those of the others
abbrev pub invariant-names : goal.invariant-names
invariant-names g l =
    map placed_of l.all.items ++ placed l.rest (map (λ name. name.now) (drop l.name-index l.names))
    ≡ placed l.fn.places (map (λ name. name.now) l.fn.names)
