use Rattle.std.proofs.Common.{◌≡◌, ◌≤◌, ◌-◌, length, take}
use Rattle.dotenvy_edit_command.specs.Diffs.{texts}
use Rattle.dotenvy_edit_command.proofs.diff.same_front.Given as goal

-- so many lines were the same
abbrev pub invariant-lines : goal.invariant-lines
invariant-lines l = record {
  in_old : l.count ≤ length l.old;
  in_new : l.count ≤ length l.new;
  same : take l.count (texts l.old) ≡ take l.count (texts l.new);
}

abbrev pub decreases-lines : goal.decreases-lines
decreases-lines l = length l.old - l.count
