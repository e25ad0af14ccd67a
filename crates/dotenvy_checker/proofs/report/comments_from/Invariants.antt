use Rattle.std.proofs.Common.{◌≡◌, length, map}
use Rattle.dotenvy_findings.specs.Comments.{allow_of}
use Rattle.dotenvy_checker.specs.Findings.{comments_from}
use Rattle.dotenvy_checker.proofs.report.comments_from.Given as goal

-- what is left decides the result
abbrev pub invariant-comments : goal.invariant-comments
invariant-comments g l =
    comments_from l.line (map allow_of l.rest) ≡ comments_from l.line (map allow_of l.fn.comments)

abbrev pub decreases-comments : goal.decreases-comments
decreases-comments g l = length l.rest
