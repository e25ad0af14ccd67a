use Rattle.std.proofs.Common.{◌≡◌, ◌≤◌, ◌+◌, ◌-◌, ◌++◌, drop, length, map, take, true}
use Rattle.dotenvy_export_command.specs.Files.{count_before, each, named_of, placed_of}
use Rattle.dotenvy_export_command.proofs.files.push_before.Given as goal

-- what is there, and the optional files that are left and before the place, are those that there will be
abbrev pub invariant-optional : goal.invariant-optional
invariant-optional g l = record {
  bound : l.next ≤ length l.optional;
  next : l.next + count_before l.place (drop l.next (map placed_of l.optional))
      ≡ l.from + count_before l.place (drop l.from (map placed_of l.optional));
  named : map named_of l.named.items
      ++ each true (take (count_before l.place (drop l.next (map placed_of l.optional))) (drop l.next (map placed_of l.optional)))
      ≡ map named_of l.initial.named.items
      ++ each true (take (count_before l.place (drop l.from (map placed_of l.optional))) (drop l.from (map placed_of l.optional)));
}

abbrev pub decreases-optional : goal.decreases-optional
decreases-optional g l = length l.optional - l.next
