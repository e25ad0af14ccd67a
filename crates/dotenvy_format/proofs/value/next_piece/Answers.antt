use Rattle.std.proofs.Common.{refl}
use Rattle.std.proofs.lemmas.Str.{chars-nil}
use Rattle.dotenvy_format.proofs.values.Readings.{lacks_end}
use Rattle.std.specs.Str.{chars}
use Rattle.dotenvy_format.specs.declared.value.NextPiece.TheVariants.{Unfinished}
use Rattle.dotenvy_format.specs.inside.NextPiece.{piece_of}
use Rattle.dotenvy_format.proofs.values.NextPiece.{next_by_kind, kind_plain, single_stops}
use Rattle.dotenvy_format.proofs.value.next_piece.Goals as goal

pub returns-in-Unquoted-clause-next : goal.returns-in-Unquoted-clause-next
returns-in-Unquoted-clause-next c = rw (c.in-Unquoted.is, c.in-None.ensures, chars-nil)

pub returns-in-DoubleQuoted-clause-next : goal.returns-in-DoubleQuoted-clause-next
returns-in-DoubleQuoted-clause-next c = rw (c.in-DoubleQuoted.is, c.in-None.ensures, chars-nil) (lacks_end refl)

pub returns-in-Some-escapes : goal.returns-in-Some-escapes
returns-in-Some-escapes c =
    rw c.text_piece.ensures (next_by_kind c.args.dialect c.args.quoting (piece_of c.in-Some-escapes.part)
    c.in-Some.ensures.characters c.in-Backslash.ensures refl (c.in-Some-escapes.ensures c.args.dialect))

pub returns-in-None-escapes : goal.returns-in-None-escapes
returns-in-None-escapes c =
    next_by_kind c.args.dialect c.args.quoting c.no_escape.result c.in-Some.ensures.characters
    c.in-Backslash.ensures refl (c.no_escape.ensures c.args.dialect)

pub returns-in-Some-single_quoted : goal.returns-in-Some-single_quoted
returns-in-Some-single_quoted c =
    rw c.text_piece-in-Some-single_quoted.ensures (next_by_kind c.args.dialect c.args.quoting
    (piece_of c.in-Some-single_quoted.part) c.in-Some.ensures.characters c.in-SingleQuote.ensures refl
    (c.in-Some-single_quoted.ensures c.args.dialect))

pub returns-in-None-single_quoted : goal.returns-in-None-single_quoted
returns-in-None-single_quoted c =
    next_by_kind c.args.dialect c.args.quoting Unfinished c.in-Some.ensures.characters c.in-SingleQuote.ensures refl
    (single_stops c.args.dialect (chars c.in-Some.left.now) c.in-None-single_quoted.ensures)

pub returns-in-DoubleQuote : goal.returns-in-DoubleQuote
returns-in-DoubleQuote c =
    rw c.text_piece-in-DoubleQuote.ensures (next_by_kind c.args.dialect c.args.quoting
    (piece_of c.double_quote.result) c.in-Some.ensures.characters c.in-DoubleQuote.ensures refl
    (c.double_quote.ensures c.args.dialect))

pub returns-in-Dollar : goal.returns-in-Dollar
returns-in-Dollar c =
    next_by_kind c.args.dialect c.args.quoting c.substitution.result c.in-Some.ensures.characters
    c.in-Dollar.ensures refl c.substitution.ensures

pub returns-in-SpaceOrTab : goal.returns-in-SpaceOrTab
returns-in-SpaceOrTab c =
    next_by_kind c.args.dialect c.args.quoting c.tail.result c.in-Some.ensures.characters
    c.in-SpaceOrTab.ensures refl (c.tail.ensures c.args.dialect)

pub plain-requires : goal.plain-requires
plain-requires c =
    rw c.in-Some.ensures.characters (kind_plain c.args.quoting c.in-Some.first c.in-Plain.ensures)

pub returns-in-Plain-clause-next : goal.returns-in-Plain-clause-next
returns-in-Plain-clause-next c = rw c.text_piece-in-Plain.ensures (c.plain.ensures.part c.args.dialect)
