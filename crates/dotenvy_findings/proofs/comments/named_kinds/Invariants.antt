use Rattle.std.proofs.Common.{◌≡◌, ◌++◌, length}
use Rattle.dotenvy_findings.specs.Comments.{named, words}
use Rattle.dotenvy_findings.proofs.comments.named_kinds.Given as goal

-- the kinds so far, and those that are named in what is left, are those of the whole
abbrev pub invariant-words : goal.invariant-words
invariant-words g l = l.kinds.items ++ named (words l.rest) ≡ named (words l.names)

abbrev pub decreases-words : goal.decreases-words
decreases-words g l = length l.rest
