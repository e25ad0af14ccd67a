use Rattle.std.proofs.Common.{refl}
use Rattle.std.proofs.lemmas.Str.{chars-nil}
use Rattle.dotenvy_format.proofs.values.NextPiece.{means_by_kind, part_by_kind, kind_plain}
use Rattle.dotenvy_format.proofs.value.text_part.Goals as goal

pub returns-in_err-first : goal.returns-in_err-first
returns-in_err-first c = rw (c.from_residual.ensures, c.in_err-first.ensures, chars-nil) refl

pub returns-in-Backslash : goal.returns-in-Backslash
returns-in-Backslash c =
    part_by_kind c.args.quoting c.escapes.result c.in_ok-first.ensures.characters c.in-Backslash.ensures refl c.escapes.ensures

pub returns-in-SingleQuote : goal.returns-in-SingleQuote
returns-in-SingleQuote c =
    part_by_kind c.args.quoting c.single_quoted.result c.in_ok-first.ensures.characters c.in-SingleQuote.ensures refl
    c.single_quoted.ensures

pub returns-in-DoubleQuote : goal.returns-in-DoubleQuote
returns-in-DoubleQuote c =
    means_by_kind c.in_ok-first.ensures.characters c.in-DoubleQuote.ensures refl c.double_quote.ensures

pub plain-requires : goal.plain-requires
plain-requires c =
    rw c.in_ok-first.ensures.characters (kind_plain c.args.quoting c.in_ok-first.first c.in-Plain.ensures)
