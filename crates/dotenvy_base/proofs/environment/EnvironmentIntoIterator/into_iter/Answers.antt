use Rattle.std.proofs.Common.{ap, subst, sym, ◌∙◌}
use Rattle.std.specs.FinMap.{entries}
use Rattle.dotenvy_base.specs.Environment.{text_entries, env_of, AreGood}
use Rattle.dotenvy_base.proofs.TextMaps.{entries-strings}
use Rattle.dotenvy_base.proofs.GoodPairs.{good_entries}
use Rattle.dotenvy_base.proofs.environment.EnvironmentIntoIterator.into_iter.Goals as goal

pub invariant_of-result : goal.invariant_of-result
invariant_of-result g c =
    let gives = c.into_iter.ensures.into_iter_gives in
    let same = ap text_entries gives.0 ∙ sym (entries-strings c.self.inside.entries.entries gives.5) in
    subst AreGood (sym same) (good_entries (env_of c.self.inside.entries.entries c.self.inside.loaded) c.self.invariant)

pub returns : goal.returns
returns g c = record {
  into_iter_gives =
      let gives = c.into_iter.ensures.into_iter_gives in
      ap text_entries gives.0 ∙ sym (entries-strings c.self.inside.entries.entries gives.5)
      ∙ ap (λ e. entries e.names) c.self.view_is;
}
