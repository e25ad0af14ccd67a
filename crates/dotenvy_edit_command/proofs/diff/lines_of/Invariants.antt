use Rattle.std.proofs.Common.{◌≡◌, ◌≤◌, ◌++◌, length}
use Rattle.dotenvy_edit_command.specs.Diffs.{lines_of, texts}
use Rattle.dotenvy_edit_command.proofs.diff.lines_of.Given as goal

-- the lines so far, and those of what is left, are those of the text
abbrev pub invariant-lines : goal.invariant-lines
invariant-lines g l = record {
  short : length l.rest ≤ length l.text;
  lines : texts l.lines.items ++ lines_of l.rest ≡ lines_of l.text;
}

abbrev pub decreases-lines : goal.decreases-lines
decreases-lines g l = length l.rest
