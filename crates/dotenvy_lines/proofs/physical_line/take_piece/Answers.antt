use Rattle.std.proofs.Common.{refl, inl, inr, string_bytes}
use Rattle.std.specs.Str.{chars}
use Rattle.dotenvy_lines.proofs.LinePieces.{piece-taken, piece-falls}
use Rattle.dotenvy_lines.proofs.WalkedPieces.{goes-on, stays-ended, stays-comment}
use Rattle.dotenvy_lines.proofs.AskedReads.{asks_none}
use Rattle.dotenvy_lines.proofs.physical_line.take_piece.Goals as goal
use Rattle.dotenvy_lines.proofs.physical_line.take_piece.Goals.{in-Blank+in_ok-progress-in-Blank}
use Rattle.dotenvy_lines.proofs.physical_line.take_piece.Goals.{in-Going+in_ok-progress-in-Going}
use Rattle.dotenvy_lines.proofs.physical_line.take_piece.Goals.{in-Ended}

pub returns-clause-told : goal.returns-clause-told
returns-clause-told g c = λ a left. (
  c.text_front-front.result.now,
  rw (c.after_text-after.ensures, c.is_at_end.ensures.value) (piece-taken left c.line_piece-piece.ensures
      c.text_front-front.ensures (rw c.is_at_end.ensures.value at (c.is_at_end.ensures.told a left))
      c.use_up.ensures),
  elim c.match-progress.branch [
    | in-Blank+in_ok-progress-in-Blank w ↦
        rw (w.in-Blank.is, w.text-is, w.progress-is) w.in_ok-progress-in-Blank.ensures.walks
    | in-Going+in_ok-progress-in-Going w ↦
        rw (w.in-Going.is, w.text-is, w.progress-is) (goes-on _ _ _ w.in_ok-progress-in-Going.ensures.walks)
    | in-Ended w ↦ elim w.in-Ended.is [
      | inl is ↦ rw (w.text-is, w.progress-is, is) (stays-ended _ _)
      | inr is ↦ rw (w.text-is, w.progress-is, is) (stays-comment (chars (string_bytes c.args.text.now)) _)
    ]
  ],
)

pub returns-clause-falls : goal.returns-clause-falls
returns-clause-falls g c =
    rw (c.after_text-after.ensures, c.is_at_end.ensures.value)
    (piece-falls c.line_piece-piece.ensures c.text_front-front.ensures c.use_up.ensures)

pub returns-in_err-progress-in-Blank-clause-asks : goal.returns-in_err-progress-in-Blank-clause-asks
returns-in_err-progress-in-Blank-clause-asks g c = asks_none _ _ _ refl refl refl refl

pub returns-in_err-progress-in-Going-clause-asks : goal.returns-in_err-progress-in-Going-clause-asks
returns-in_err-progress-in-Going-clause-asks g c = asks_none _ _ _ refl refl refl refl

pub returns-clause-asks : goal.returns-clause-asks
returns-clause-asks g c = rw c.use_up.ensures (asks_none _ _ _ refl refl refl refl)
