use Rattle.std.proofs.Common.{[], sym}
use Rattle.dotenvy_format.proofs.values.Readings.{tail_run, comment_read, stop_then}
use Rattle.dotenvy_format.proofs.values.NextPiece.{tail_stops}
use Rattle.dotenvy_format.proofs.value.tail.Goals as goal

pub returns-then-is_empty_or_comment : goal.returns-then-is_empty_or_comment
returns-then-is_empty_or_comment c =
    λ dialect.
    let span = c.split_while.ensures.span in
    rw (
      span.spelled,
      (tail_run {dialect = dialect} _ _ span.pass).reads,
      comment_read dialect _ (sym c.if-is_empty_or_comment.ensures),
    )

pub returns-else-is_empty_or_comment : goal.returns-else-is_empty_or_comment
returns-else-is_empty_or_comment c =
    λ dialect.
    let span = c.split_while.ensures.span in
    stop_then {p = []} (rw span.spelled (tail_run _ _ span.pass))
    (tail_stops dialect _ span.longest (sym c.if-is_empty_or_comment.ensures))
