use Rattle.std.proofs.Common.{sym, ◌∙◌}
use Rattle.std.proofs.lemmas.List.{length-map}
use Rattle.std.specs.FinMap.{len-entries}
use Rattle.dotenvy_base.proofs.TextMaps.{entries-strings}
use Rattle.dotenvy_base.proofs.environment.Environment.len.Goals as goal

pub returns : goal.returns
returns g c =
    rw (← c.self.view_is, len-entries, entries-strings _ c.len.ensures.ordered)
    (c.len.ensures.len ∙ sym (length-map c.self.inside.entries.entries _))
