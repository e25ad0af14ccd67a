use Rattle.std.proofs.Common.{[], ◌∷◌, refl}
use Rattle.std.proofs.lemmas.Str.{chars-nil}
use Rattle.dotenvy_format.specs.Value.{escape_meaning}
use Rattle.dotenvy_format.proofs.values.Readings.{escape_read}
use Rattle.dotenvy_format.proofs.values.NextPiece.{gives_texts}
use Rattle.dotenvy_format.proofs.value.escape.Goals as goal

pub returns-in_err-first : goal.returns-in_err-first
returns-in_err-first c = rw (c.from_residual.ensures, c.in_err-first.ensures, chars-nil) refl

pub returns-in_err-meant : goal.returns-in_err-meant
returns-in_err-meant c =
    rw (c.from_residual-in_err-meant.ensures, c.in_ok-first.ensures.characters) c.in_err-meant.ensures

pub returns : goal.returns
returns c =
    λ dialect.
    let escape = c.in_ok-meant.ensures in
    gives_texts (escape_meaning c.in_ok-first.first ∷ []) c.in_ok-first.ensures.follows escape.1
    (rw c.in_ok-first.ensures.characters (escape_read escape.0))
