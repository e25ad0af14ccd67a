use Rattle.std.proofs.Common.{◌≡◌, [], ◌++◌, ◌∙◌, ap, inl, inr, not, refl, sym}
use Rattle.std.specs.Prelude.{◌||◌}
use Rattle.std.specs.Str.{chars}
use Rattle.dotenvy_format.proofs.values.Readings.{none_read, read_then, stop_then}
use Rattle.dotenvy_format.proofs.values.Values.{no_value, value-read}
use Rattle.dotenvy_editor.proofs.PieceReadings.{all_read, mentions_more, nul_more}
use Rattle.dotenvy_editor.proofs.TailPasses.{meant_is}
use Rattle.dotenvy.specs.Items.{no_values}
use Rattle.dotenvy_format.specs.inside.NextPiece.{named_piece, piece_bytes}
use Rattle.dotenvy_editor.proofs.values.value_of.Goals as goal
use Rattle.dotenvy_editor.proofs.values.value_of.Goals.{else-has_nul, else-mentions, then-has_nul, then-mentions}

pub pieces-init : goal.pieces-init
pieces-init g c = (c.utf8.assigned, ([], none_read _ _ _, refl, λ names are. refl))

pub returns-in-End-clause-part : goal.returns-in-End-clause-part
returns-in-End-clause-part g c =
    let i = c.pieces.invariant.1 in
    let is = value-read c.args.dialect (chars c.args.assigned.now) i.0 (all_read i.1 c.in-End.ensures.next) in (
      _,
      inr (inl (
        ap not (sym c.if-is_empty_or_comment.ensures),
        meant_is c.args.dialect
            (chars c.args.assigned.now) i.0 is,
      )),
      c.meant_len.ensures,
    )

pub returns-in-End-clause-pieces : goal.returns-in-End-clause-pieces
returns-in-End-clause-pieces g c =
    λ names are.
    let i = c.pieces.invariant.1 in
    let is = value-read c.args.dialect (chars c.args.assigned.now) i.0 (all_read i.1 c.in-End.ensures.next) in
    (i.0, inr (ap not (sym c.if-is_empty_or_comment.ensures), is), i.2, i.3 names are)

pub returns-in-Unfinished-clause-part : goal.returns-in-Unfinished-clause-part
returns-in-Unfinished-clause-part g c = (
  ap not (sym c.if-is_empty_or_comment.ensures),
  no_value c.args.dialect (chars c.args.assigned.now)
      (stop_then c.pieces.invariant.1.1 c.in-Unfinished.ensures.next).reads,
)

pub returns-in-Fault-clause-part : goal.returns-in-Fault-clause-part
returns-in-Fault-clause-part g c = (
  ap not (sym c.if-is_empty_or_comment.ensures),
  no_value c.args.dialect (chars c.args.assigned.now)
      (stop_then c.pieces.invariant.1.1 c.in-Fault.ensures.next).reads,
)

pub returns-in-Unfinished-clause-pieces : goal.returns-in-Unfinished-clause-pieces
returns-in-Unfinished-clause-pieces g c = λ names are. returns-in-Unfinished-clause-part g c

pub returns-in-Fault-clause-pieces : goal.returns-in-Fault-clause-pieces
returns-in-Fault-clause-pieces g c = λ names are. returns-in-Fault-clause-part g c

pub pieces-preserved : goal.pieces-preserved
pieces-preserved g c =
    let i = c.pieces.invariant.1 in
    let next = c.in-Piece.ensures.next in
    let nul : c.if-has_nul.nul ≡ (c.has_nul.result || c.pieces.nul) =
    elim c.if-has_nul.branch [
      | then-has_nul w ↦ rw (w.nul-is, w.if-has_nul.true) refl
      | else-has_nul w ↦ rw (w.nul-is, w.if-has_nul.false) refl
    ] in
    let mentioned : c.if-mentions.mentioned ≡ (c.mentions.result || c.pieces.mentioned) =
    elim c.if-mentions.branch [
      | then-mentions w ↦ rw (w.mentioned-is, w.if-mentions.true) refl
      | else-mentions w ↦ rw (w.mentioned-is, w.if-mentions.false) refl
    ] in (
      next.follows,
      (
        i.0 ++ next.pieces,
        read_then i.1 next.is_read,
        nul
            ∙ nul_more c.pieces.nul c.has_nul.result (piece_bytes no_values c.in-Piece.given.piece) i.0 next.pieces i.2
            c.has_nul.ensures (next.means no_values),
        λ names are.
            mentioned
            ∙ mentions_more names c.pieces.mentioned c.mentions.result
            (named_piece c.in-Piece.given.piece) i.0 next.pieces
            (i.3 names are) (c.mentions.ensures names are) next.names,
      ),
    )
