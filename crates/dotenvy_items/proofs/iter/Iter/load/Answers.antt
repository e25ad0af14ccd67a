use Rattle.dotenvy_items.proofs.iter.Iter.load.Goals as goal

pub returns-clause-shut : goal.returns-clause-shut
returns-clause-shut g c = λ shut. let same = c.load_rest.ensures.shut shut in (same.0, same.2)
