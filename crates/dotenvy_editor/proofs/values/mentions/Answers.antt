use Rattle.std.proofs.Common.{[], ◌∙◌}
use Rattle.std.proofs.lemmas.Str.{chars-nil}
use Rattle.dotenvy_editor.proofs.PieceReadings.{empty_mentioned}
use Rattle.dotenvy_editor.proofs.values.mentions.Goals as goal

pub returns-in-EmptyNames : goal.returns-in-EmptyNames
returns-in-EmptyNames g c =
    λ some are.
    rw (c.in-EmptyNames.is, empty_mentioned some c.in-EmptyNames.more) (c.has-in-EmptyNames.ensures ∙ (rw chars-nil (are [])))
