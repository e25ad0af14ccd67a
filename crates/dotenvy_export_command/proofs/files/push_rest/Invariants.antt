use Rattle.std.proofs.Common.{◌≡◌, ◌++◌, drop, map, true}
use Rattle.dotenvy_export_command.specs.Files.{each, named_of, placed_of}
use Rattle.dotenvy_export_command.proofs.files.push_rest.Given as goal

-- what is there, and the optional files that are left, are those that there will be
abbrev pub invariant-optional : goal.invariant-optional
invariant-optional g l =
    map named_of l.named.items ++ each true (map placed_of (drop l.file-index l.file-items))
    ≡ map named_of l.initial.named.items ++ each true (drop l.fn.from (map placed_of l.fn.optional))
