use Rattle.std.proofs.Common.{◌∙◌, sym}
use Rattle.dotenvy_editor.specs.Verbatim.{BeginsVerbatim}
use Rattle.dotenvy_c.specs.Options.{dialect_of}
use Rattle.dotenvy_c.proofs.AskedItems.{found_some, pair_asked}
use Rattle.dotenvy_c.proofs.asked.as_asked.Goals as goal

pub unwrap-requires : goal.unwrap-requires
unwrap-requires c =
    let has = rw c.in-Ok.is at c.requires in
    found_some (BeginsVerbatim (dialect_of c.args.options) c.args.bytes.now) c.in_ok-text.text has.0 has.1
    (rw c.dialect_of.ensures at c.in_ok-text.ensures)

pub returns-clause-ok : goal.returns-clause-ok
returns-clause-ok c =
    pair_asked _ (dialect_of c.args.options) c.args.bytes.now c.args.item c.in-Ok.pair c.in_ok-text.text c.unwrap.result
    (sym c.has_option.ensures ∙ c.if-not-has_option.false) c.in-Ok.is c.unwrap.ensures
    (rw c.dialect_of.ensures at c.in_ok-text.ensures)
