use Rattle.std.specs.Str.{chars}
use Rattle.std.proofs.lemmas.Str.{encodes-chars}
use Rattle.dotenvy_format.proofs.values.Readings.{plain_run}
use Rattle.dotenvy_format.proofs.values.NextPiece.{gives_texts}
use Rattle.dotenvy_format.proofs.value.plain.Goals as goal

pub returns-clause-part : goal.returns-clause-part
returns-clause-part c =
    λ dialect.
    let span = c.split_plain.ensures.span in
    let texts = c.split_plain.ensures.texts in
    gives_texts (chars c.split_plain.result.0.now) texts.1 (rw (encodes-chars _ texts.0))
    (rw span.spelled (plain_run dialect c.args.quoting _ _ span.pass))
