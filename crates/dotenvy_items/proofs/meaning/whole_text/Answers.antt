use Rattle.std.proofs.Common.{length, refl}
use Rattle.std.proofs.lemmas.Str.{chars-nil}
use Rattle.dotenvy_base.proofs.Basics.{tested_empty}
use Rattle.dotenvy_items.proofs.Meanings.{means_alone}
use Rattle.dotenvy_items.proofs.meaning.whole_text.Goals as goal

pub returns-in-Unquoted : goal.returns-in-Unquoted
returns-in-Unquoted c =
    let rest = c.in_ok-part.part.rest.now in
    let none = tested_empty rest (length rest) c.is_empty.result c.is_empty.ensures refl c.if-is_empty.true in
    means_alone c.in_ok-part.ensures.0 c.in-Unquoted.is (rw none chars-nil)
