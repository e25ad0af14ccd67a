use Rattle.std.proofs.Common.{rules, ◌≡◌, None}
use Rattle.std.specs.BTreeMap.{get}
use Rattle.std.specs.String.{string_cmp}
use Rattle.dotenvy_base.proofs.TextMaps.{contains-strings, good-entered, kept-entered, absent-entered}
use Rattle.dotenvy_base.proofs.environment.set_absent.Goals as goal

pub invariant_of-env : goal.invariant_of-env
invariant_of-env g c =
    let same : c.entry.follows.lender-at-none.entries ≡ c.env.inside.entries.entries = search rules in
    rw same c.env.invariant

pub returns-in_err-env-inside-clause-kept : goal.returns-in_err-env-inside-clause-kept
returns-in_err-env-inside-clause-kept g c = λ there.
    let absent : get string_cmp c.env.inside.entries c.args.key ≡ None = search rules in
    let here = rw (← c.env.view_is, contains-strings, absent) at there in cc

pub invariant_of-env-2 : goal.invariant_of-env-2
invariant_of-env-2 g c =
    good-entered c.args.key c.args.value c.env.inside.entries.entries c.env.inside.loaded (search rules)
    c.env.invariant c.requires (search rules)

pub returns-clause-kept : goal.returns-clause-kept
returns-clause-kept g c = λ there.
    let here = rw (← c.env.view_is, contains-strings) at there in (
      search rules,
      kept-entered c.args.key c.args.value c.env.inside.entries.entries (search rules) c.env.view_is there,
    )

pub returns-clause-ok : goal.returns-clause-ok
returns-clause-ok g c = λ absent.
    let here = rw (← c.env.view_is, contains-strings) at absent in (
      search rules,
      absent-entered c.args.key c.args.value c.env.inside.entries.entries (search rules) c.env.view_is absent,
    )
