use Rattle.std.proofs.Common.{◌-◌, length, map, take}
use Rattle.dotenvy_items.specs.Meaning.{values_of}
use Rattle.dotenvy_exporter.specs.Declarations.{LoadsThrough}
use Rattle.dotenvy_exporter.proofs.declared.load_all.Given as goal

-- the files that are left
abbrev pub decreases-files : goal.decreases-files
decreases-files g l = length l.files - l.index

-- the files before this one are loaded
abbrev pub invariant-files : goal.invariant-files
invariant-files g l =
    LoadsThrough l.how.mode l.how.dialect (values_of l.how.env.now.names)
    (map (λ file. file.items) (take l.index l.files)) (values_of l.fn.names.names) (values_of l.names.names)
