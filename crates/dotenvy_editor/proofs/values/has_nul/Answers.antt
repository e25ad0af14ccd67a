use Rattle.std.proofs.Common.{◌≡◌, ◌∙◌, suc, ap, refl, sym}
use Rattle.dotenvy.specs.Items.{no_values}
use Rattle.dotenvy_format.specs.inside.NextPiece.{piece_bytes}
use Rattle.dotenvy_editor.specs.Forms.{has}
use Rattle.dotenvy_editor.proofs.EndBytes.{byte_found}
use Rattle.dotenvy_editor.proofs.PieceReadings.{no_times}
use Rattle.dotenvy_editor.proofs.values.has_nul.Goals as goal
use Rattle.dotenvy_editor.proofs.values.has_nul.Goals.{in-Text, in-Name, in-EmptyNames, in-LastBackslash}

pub returns : goal.returns
returns c =
    let text : c.match-piece.text.now ≡ piece_bytes no_values c.args.piece =
    elim c.match-piece.branch [
      | in-Text w ↦ rw (w.text-is, w.in-Text.is) refl
      | in-Name w ↦ rw (w.text-is, w.in-Name.is) refl
      | in-EmptyNames w ↦ rw (w.text-is, w.in-EmptyNames.is) (sym (no_times (suc w.in-EmptyNames.more)))
      | in-LastBackslash w ↦ rw (w.text-is, w.in-LastBackslash.is) refl
    ] in
    c.is_some.ensures ∙ byte_found 0 _ _ c.memchr.ensures ∙ ap (has 0) (c.as_bytes.ensures.value ∙ text)
