use Rattle.std.proofs.Common.{length}
use Rattle.dotenvy_command.specs.Answers.{texts, line_of}
use Rattle.dotenvy_command.proofs.WordGroups.{SoFar}
use Rattle.dotenvy_command.proofs.command_line.command_line.Given as goal

-- the words are some groups and what is left, and the line is that of these groups
abbrev pub invariant-groups : goal.invariant-groups
invariant-groups g l = SoFar (texts l.words) (texts l.rest) (line_of l.line)

-- the words that are left
abbrev pub decreases-groups : goal.decreases-groups
decreases-groups g l = length l.rest
