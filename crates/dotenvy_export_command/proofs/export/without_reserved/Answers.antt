use Rattle.std.proofs.Common.{◌≡◌, ◌∙◌, [], append-nil, arith, rules, sym, true}
use Rattle.std.proofs.lemmas.Grind.{common_steps}
use Rattle.dotenvy_base.specs.Environment.{text_entries}
use Rattle.dotenvy_export_command.proofs.KeptPairs.{pairs_kept}
use Rattle.dotenvy_export_command.proofs.export.without_reserved.Goals as goal

pub returns-in-Ok-clause-kept : goal.returns-in-Ok-clause-kept
returns-in-Ok-clause-kept g c =
    let skips : c.args.how.skips_reserved ≡ true = first_of (search rules, grind (arith, common_steps)) in
    let none : c.pairs.name-iterator ≡ [] = search rules in
    rw skips
    (pairs_kept c.args.how.target c.args.env.names _ (text_entries c.pairs.pairs.items) c.in-Ok.ensures.names
    c.pairs.invariant.good (sym (append-nil _) ∙ (rw none at c.pairs.invariant.kept)))
