-- The laws of the command line.
use Rattle.std.specs.Prelude.{◌≡◌, not, List, map}
use Rattle.std.specs.List.{filter}
use Rattle.dotenvy_export_command.specs.Files.{At, merged}

-- of files that are merged, those that have to be there are the files, and those that may be absent
-- are the optional ones, each in their order
abbrev pub MergedOnce : Type 0
MergedOnce =
    (files optional : List At) →
    (map (λ file. file.0) (filter (λ file. not file.1) (merged files optional))
    ≡ map (λ file. file.1) files)
    × (map (λ file. file.0) (filter (λ file. file.1) (merged files optional))
    ≡ map (λ file. file.1) optional)
