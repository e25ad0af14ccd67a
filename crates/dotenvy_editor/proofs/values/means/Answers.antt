use Rattle.std.proofs.Common.{[], ◌++◌, ◌∙◌, ap, not, sym}
use Rattle.dotenvy_format.proofs.values.Readings.{none_read, read_then, stop_then}
use Rattle.dotenvy_editor.proofs.PieceReadings.{all_read, empty_means, end_means, front_meant, meant_more, no_text}
use Rattle.dotenvy_editor.proofs.values.means.Goals as goal

pub returns-then-is_empty_or_comment : goal.returns-then-is_empty_or_comment
returns-then-is_empty_or_comment c =
    empty_means c.args.text.now c.is_empty.result (sym c.if-is_empty_or_comment.ensures) c.utf8.text c.is_empty.ensures

pub pieces-init : goal.pieces-init
pieces-init c =
    (c.utf8.assigned, ([], none_read _ _ _, record { is = λ look_up. sym c.as_bytes-left.ensures.value }))

pub returns-in-End : goal.returns-in-End
returns-in-End c =
    let i = c.pieces.invariant.1 in
    end_means c.args.text.now c.pieces.left.now c.is_empty-in-End.result (ap not (sym c.if-is_empty_or_comment.ensures))
    (all_read i.1 c.in-End.ensures.next) c.utf8.text i.2 c.is_empty-in-End.ensures

pub returns-in-Unfinished : goal.returns-in-Unfinished
returns-in-Unfinished c = (
  λ k. absurd (cc),
  λ assigns.
      absurd (no_text (ap not (sym c.if-is_empty_or_comment.ensures))
      (stop_then c.pieces.invariant.1.1 c.in-Unfinished.ensures.next).reads assigns),
)

pub returns-in-Fault : goal.returns-in-Fault
returns-in-Fault c = (
  λ k. absurd (cc),
  λ assigns.
      absurd (no_text (ap not (sym c.if-is_empty_or_comment.ensures))
      (stop_then c.pieces.invariant.1.1 c.in-Fault.ensures.next).reads assigns),
)

pub returns-in-None : goal.returns-in-None
returns-in-None c = (
  λ k. absurd (cc),
  λ assigns.
      let i = c.pieces.invariant.1 in
      absurd (c.in-None.ensures
      (front_meant (ap not (sym c.if-is_empty_or_comment.ensures)) i.1 c.in-Piece.ensures.next c.utf8.text i.2
      assigns)),
)

pub pieces-preserved : goal.pieces-preserved
pieces-preserved c =
    let i = c.pieces.invariant.1 in
    let next = c.in-Piece.ensures.next in (
      next.follows,
      (
        i.0 ++ next.pieces,
        read_then i.1 next.is_read,
        meant_more next.pieces i.2
            (λ look_up. c.in-Some.ensures look_up ∙ ap (λ cs. cs ++ c.in-Some.later.now) (next.means look_up)),
      ),
    )
