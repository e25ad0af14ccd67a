use Rattle.std.proofs.Common.{◌≡◌, [], rules}
use Rattle.std.specs.FinMap.{entries, entries_sorted}
use Rattle.dotenvy_exporter.proofs.EnvironmentPairs.{are_texts}
use Rattle.dotenvy_exporter.proofs.export.first_refusal.Goals as goal

pub returns-clause-texts : goal.returns-clause-texts
returns-clause-texts g c =
    let names = c.args.env.now.names in
    let none : c.pairs.name-iterator ≡ [] = search rules in
    λ is. are_texts (entries names) (c.pairs.invariant.utf8 (rw none tt)) (entries_sorted names)
