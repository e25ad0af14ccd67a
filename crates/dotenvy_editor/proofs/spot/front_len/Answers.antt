use Rattle.std.proofs.Common.{◌∙◌, ap, length, sym}
use Rattle.std.proofs.lemmas.Str.{chars_from_encodes}
use Rattle.dotenvy.specs.Characters.{byte_len}
use Rattle.dotenvy.specs.Outcome.{trimmed}
use Rattle.dotenvy_editor.proofs.SpotParts.{trimmed_bytes}
use Rattle.dotenvy_editor.proofs.spot.front_len.Goals as goal

pub returns-then-is_empty_or_comment : goal.returns-then-is_empty_or_comment
returns-then-is_empty_or_comment c =
    λ front is.
    rw (← c.if-is_empty_or_comment.ensures)
    (ap length (trimmed_bytes c.args.before.now c.trim_end.result.now c.utf8.before c.trim_end.ensures.trim)
    ∙ ap (λ cs. byte_len (trimmed cs)) (sym (chars_from_encodes front c.args.before.now c.utf8.before (sym is))))
