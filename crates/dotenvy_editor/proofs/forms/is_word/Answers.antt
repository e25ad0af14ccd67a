use Rattle.std.proofs.Common.{rules, tests}
use Rattle.std.proofs.lemmas.Iterator.{YieldsList-from_chars}
use Rattle.std.proofs.lemmas.Iterator.Search.{all_from_yields_List}
use Rattle.dotenvy_editor.specs.Forms.{is_plain}
use Rattle.dotenvy_editor.proofs.forms.is_word.Goals as goal

pub returns : goal.returns
returns c =
    all_from_yields_List is_plain _ _ _ c.all.ensures.ran
    (YieldsList-from_chars c.args.value.now c.utf8.value c.chars.ensures.rest) (λ x b q k. search (rules, tests))
