use Rattle.std.proofs.Common.{[], refl}
use Rattle.std.proofs.lemmas.Str.{chars-nil}
use Rattle.dotenvy_format.proofs.values.Readings.{none_read}
use Rattle.std.specs.Char.{encode_utf8}
use Rattle.std.proofs.lemmas.List.{append-nil}
use Rattle.dotenvy_format.proofs.bytes.Slices.{past_first, take_first}
use Rattle.dotenvy_format.proofs.values.NextPiece.{gives_texts, means_by_kind, one_plain, part_by_kind, kind_plain}
use Rattle.dotenvy_format.proofs.texts.short_part.Goals as goal

pub returns-in_err-first : goal.returns-in_err-first
returns-in_err-first c = rw (c.from_residual.ensures, c.in_err-first.ensures, chars-nil) refl

pub returns-in-Backslash : goal.returns-in-Backslash
returns-in-Backslash c =
    part_by_kind c.args.quoting c.escape.result c.in_ok-first.ensures.characters c.in-Backslash.ensures refl
    c.escape.ensures

pub returns-in-SingleQuote : goal.returns-in-SingleQuote
returns-in-SingleQuote c =
    part_by_kind c.args.quoting c.single_quoted.result c.in_ok-first.ensures.characters c.in-SingleQuote.ensures refl
    c.single_quoted.ensures

pub returns-in-DoubleQuote : goal.returns-in-DoubleQuote
returns-in-DoubleQuote c =
    means_by_kind c.in_ok-first.ensures.characters c.in-DoubleQuote.ensures refl
    (λ dialect.
    gives_texts [] c.in_ok-first.ensures.follows refl (rw c.other_quoting.ensures (none_read dialect _ _)))

pub plain-requires : goal.plain-requires
plain-requires c =
    rw c.in_ok-first.ensures.characters (kind_plain c.args.quoting c.in_ok-first.first c.in-Plain.ensures)

pub split_at-requires : goal.split_at-requires
split_at-requires c =
    rw c.len_utf8.ensures.value (past_first _ _ c.in_ok-first.first c.utf8.text c.in_ok-first.ensures.bytes)

pub returns-in-Plain : goal.returns-in-Plain
returns-in-Plain c =
    let first = c.in_ok-first.ensures in
    let bytes = rw (
      c.len_utf8.ensures.value,
      take_first _ _ c.in_ok-first.first first.bytes,
      ← append-nil (encode_utf8 c.in_ok-first.first),
    ) at c.split_at.ensures.front in
    one_plain first.characters c.in-Plain.ensures first.follows bytes
