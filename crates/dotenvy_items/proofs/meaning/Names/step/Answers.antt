use Rattle.dotenvy_items.proofs.Meanings.{again_counted, empty_known}
use Rattle.dotenvy_items.proofs.meaning.Names.step.Goals as goal

pub returns-in-EmptyNames-clause-len : goal.returns-in-EmptyNames-clause-len
returns-in-EmptyNames-clause-len g c =
    let found = c.look_up_after-found-in-EmptyNames in
    rw (c.in-EmptyNames.is, ← empty_known _ found.result found.ensures)
    (again_counted c.in-EmptyNames.more _ c.saturating_mul.ensures c.saturating_add-in-EmptyNames.ensures)
