use Rattle.std.proofs.Common.{rules, subst, sym}
use Rattle.dotenvy_base.specs.Environment.{IsEnvironment, env_of}
use Rattle.dotenvy_base.proofs.TextMaps.{entries-strings}
use Rattle.dotenvy_base.proofs.EnvironmentTexts.{listed_texts}
use Rattle.dotenvy_base.proofs.GoodPairs.{good_entries}
use Rattle.dotenvy_base.proofs.environment.Environment.iter.Goals as goal

pub invariant_of-result : goal.invariant_of-result
invariant_of-result g c =
    rw (c.iter-pairs.ensures.rest, ← entries-strings _ c.iter-pairs.ensures.ordered)
    (good_entries (env_of c.self.inside.entries.entries c.self.inside.loaded) c.self.invariant)

pub returns-clause-good : goal.returns-clause-good
returns-clause-good g c = subst IsEnvironment c.self.view_is c.self.invariant

pub returns-clause-texts : goal.returns-clause-texts
returns-clause-texts g c =
    listed_texts c.self.inside.entries.entries c.args.self.now.names
    (rw (← c.self.view_is) (sym (entries-strings _ c.iter-pairs.ensures.ordered)))

pub returns-clause-pairs : goal.returns-clause-pairs
returns-clause-pairs g c = rw (
  ← c.self.view_is,
  entries-strings _ c.iter-pairs.ensures.ordered,
  c.iter-pairs.ensures.rest,
) (search rules)
