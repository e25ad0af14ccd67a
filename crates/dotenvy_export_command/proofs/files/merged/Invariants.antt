use Rattle.std.proofs.Common.{◌≡◌, ◌≤◌, ◌++◌, drop, length, map}
use Rattle.dotenvy_export_command.specs.Files.{merged, named_of, placed_of}
use Rattle.dotenvy_export_command.proofs.files.merged.Given as goal

-- what is there, and the files that are left, merged, are all files
abbrev pub invariant-files : goal.invariant-files
invariant-files g l = record {
  bound : l.next ≤ length l.optional;
  rest : map named_of l.named.items
      ++ merged (map placed_of (drop l.file-index l.files)) (drop l.next (map placed_of l.optional))
      ≡ merged (map placed_of l.files) (map placed_of l.optional);
}
