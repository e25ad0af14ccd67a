use Rattle.std.proofs.Common.{length}
use Rattle.dotenvy_format.specs.Decided.{up_to_last_line_feed}
use Rattle.dotenvy_editor.proofs.WholeLines.{WholeSoFar}
use Rattle.dotenvy_editor.proofs.whole.whole_len.Given as goal

-- the lines so far are whole, and were counted
abbrev pub invariant-lines : goal.invariant-lines
invariant-lines g l = WholeSoFar (up_to_last_line_feed l.fn.bytes) l.lines l.len

abbrev pub decreases-lines : goal.decreases-lines
decreases-lines g l = length l.lines.left
