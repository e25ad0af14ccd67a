use Rattle.std.proofs.Common.{rules, tests}
use Rattle.std.proofs.lemmas.Iterator.{YieldsList-from_chars}
use Rattle.std.proofs.lemmas.Iterator.Search.{any_from_yields_List}
use Rattle.dotenvy_format.specs.Written.{needs_backslash}
use Rattle.dotenvy_editor.proofs.forms.needs_escape.Goals as goal

pub returns : goal.returns
returns c =
    any_from_yields_List needs_backslash _ _ _ c.any.ensures.ran
    (YieldsList-from_chars c.args.value.now c.utf8.value c.chars.ensures.rest) (λ x b q k. search (rules, tests))
