use Rattle.std.specs.Str.{chars}
use Rattle.std.proofs.lemmas.Str.{encodes-chars}
use Rattle.dotenvy_format.specs.declared.text.Quoting.TheVariants.{DoubleQuoted}
use Rattle.dotenvy_format.proofs.values.Readings.{plain_run}
use Rattle.dotenvy_format.proofs.values.NextPiece.{gives_texts, quoted_read}
use Rattle.dotenvy_format.proofs.value.double_quoted.Goals as goal

pub returns-in-Some-eq34-default : goal.returns-in-Some-eq34-default
returns-in-Some-eq34-default c =
    λ dialect.
    let span = c.split_while.ensures.span in
    let first = c.in-Some-eq34-default.ensures in
    gives_texts (chars c.split_while.result.0.now) first.follows (rw (encodes-chars _ c.split_while.ensures.texts.0))
    (rw (span.spelled, first.characters, c.in-Some-eq34-default.field-0-0-test) (quoted_read dialect _ _ span.pass))

pub returns-in_default : goal.returns-in_default
returns-in_default c =
    λ dialect.
    let span = c.split_while.ensures.span in
    let texts = c.split_while.ensures.texts in
    gives_texts (chars c.split_while.result.0.now) texts.1 (rw (encodes-chars _ texts.0))
    (rw span.spelled (plain_run dialect DoubleQuoted _ _ span.pass))
