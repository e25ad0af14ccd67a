use Rattle.std.proofs.Common.{◌≡◌, ◌≤◌, ◌-◌, drop, length}
use Rattle.dotenvy_edit_command.specs.Diffs.{texts}
use Rattle.dotenvy_edit_command.proofs.diff.same_back.Given as goal

-- so many lines at the end were the same
abbrev pub invariant-lines : goal.invariant-lines
invariant-lines l = record {
  in_old : l.count ≤ length l.old;
  in_new : l.count ≤ length l.new;
  same : drop (length l.old - l.count) (texts l.old) ≡ drop (length l.new - l.count) (texts l.new);
}

abbrev pub decreases-lines : goal.decreases-lines
decreases-lines l = length l.old - l.count
