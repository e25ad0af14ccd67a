use Rattle.std.proofs.Common.{[], ◌∷◌, refl}
use Rattle.std.specs.Str.{chars}
use Rattle.std.proofs.lemmas.List.{append-nil}
use Rattle.std.proofs.lemmas.Str.{chars-nil, encodes-chars}
use Rattle.dotenvy_format.specs.Value.{Text}
use Rattle.dotenvy_format.proofs.values.Readings.{single_read}
use Rattle.dotenvy_format.proofs.values.NextPiece.{behind_single, none_single}
use Rattle.dotenvy_format.proofs.value.single_quoted.Goals as goal

pub returns : goal.returns
returns c =
    λ dialect.
    let span = c.split_while.ensures.span in
    let first = c.in_ok-rest.ensures in
    let parts = behind_single span first.characters in
    record {
      pieces = Text (chars c.split_while.result.0.now) ∷ [];
      is_read = rw parts (single_read _ _ span.pass);
      follows = first.follows;
      means = λ look_up. rw (append-nil, encodes-chars c.split_while.result.0.now c.split_while.ensures.texts.0);
      names = refl;
    }

pub returns-in_err-rest : goal.returns-in_err-rest
returns-in_err-rest c =
    rw c.from_residual.ensures (none_single c.split_while.ensures.span (rw (c.in_err-rest.ensures, chars-nil) refl))
