use Rattle.dotenvy_base.proofs.TextMaps.{text_entries-clones}
use Rattle.dotenvy_base.proofs.environment.Environment.try_clone.Goals as goal

pub invariant_of-result : goal.invariant_of-result
invariant_of-result g c =
    rw (text_entries-clones c.self.inside.entries.entries c.in_ok-clone.field-0.entries c.in_ok-clone.ensures.cases)
    c.self.invariant

pub returns-clause-ok : goal.returns-clause-ok
returns-clause-ok g c =
    rw (text_entries-clones c.self.inside.entries.entries c.in_ok-clone.field-0.entries c.in_ok-clone.ensures.cases)
    c.self.view_is
