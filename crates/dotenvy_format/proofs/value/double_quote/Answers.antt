use Rattle.std.proofs.Common.{◌≡◌, [], refl, length, arith}
use Rattle.std.specs.Str.{chars}
use Rattle.std.proofs.lemmas.Str.{encodes-chars}
use Rattle.dotenvy_format.specs.Characters.{double_quote}
use Rattle.dotenvy_format.specs.inside.NextPiece.{other_quoting}
use Rattle.dotenvy_format.proofs.values.NextPiece.{after_quotes, quotes_run, odd_back, own_bytes}
use Rattle.dotenvy_format.proofs.values.NextPiece.{gives_texts, means_after}
use Rattle.dotenvy_format.proofs.value.double_quote.Goals as goal
use Rattle.dotenvy_format.proofs.value.double_quote.Goals.{then-more-eq0, else-more-eq0}

pub returns-in-Unquoted : goal.returns-in-Unquoted
returns-in-Unquoted c =
    let more = c.split_while.result.0.now in
    let from = c.args.quoting in
    let texts = c.split_while.ensures.texts in
    let span = c.split_while.ensures.span in
    let row : chars more ≡ more =
    cc (own_bytes double_quote (chars more) (omega arith) span.pass, encodes-chars more texts.0) in
    let leads : after_quotes (length (chars more)) (other_quoting from) ≡ c.if-more-eq0.quoting =
    elim c.if-more-eq0.branch [
      | then-more-eq0 w ↦ rw (row, w.if-more-eq0.true, w.quoting-is, w.other_quoting-quoting.ensures)
      | else-more-eq0 w ↦ rw (row, w.quoting-is) (odd_back (length more) from w.if-more-eq0.false)
    ] in
    λ dialect.
    gives_texts [] texts.1 refl (rw (span.spelled, ← leads) (quotes_run dialect (other_quoting from) _ _ span.pass))

pub returns-in-DoubleQuoted : goal.returns-in-DoubleQuoted
returns-in-DoubleQuoted c =
    let more = c.split_while.result.0.now in
    let from = c.args.quoting in
    let texts = c.split_while.ensures.texts in
    let span = c.split_while.ensures.span in
    let row : chars more ≡ more =
    cc (own_bytes double_quote (chars more) (omega arith) span.pass, encodes-chars more texts.0) in
    let leads : after_quotes (length (chars more)) (other_quoting from) ≡ c.if-more-eq0.quoting =
    elim c.if-more-eq0.branch [
      | then-more-eq0 w ↦ rw (row, w.if-more-eq0.true, w.quoting-is, w.other_quoting-quoting.ensures)
      | else-more-eq0 w ↦ rw (row, w.quoting-is) (odd_back (length more) from w.if-more-eq0.false)
    ] in
    λ dialect.
    let opened = rw (leads, c.in-DoubleQuoted.is) at
    (quotes_run dialect (other_quoting from) (chars more) (chars c.split_while.result.1.now) span.pass) in
    means_after (rw span.spelled opened) (c.double_quoted.ensures dialect)
