use Rattle.std.proofs.Common.{◌≡◌, ◌∷◌, rules}
use Rattle.dotenvy_checker.specs.Together.{is_declared, settable, with_empty}
use Rattle.dotenvy_checker.specs.inside.CheckedLines.{declared_of}
use Rattle.dotenvy_checker.proofs.EmptyValues.{names_set, set_all, set_more}
use Rattle.dotenvy_checker.proofs.declared.set_names.Goals as goal

pub keys-preserved : goal.keys-preserved
keys-preserved g c =
    let left : c.keys.name-iterator ≡ c.in-Some.name.now ∷ c.next.new.self = search rules in
    set_more c.keys.env.names c.set_name.new.env.names c.in-Some.name.now c.keys.name-iterator c.next.new.self
    (with_empty c.args.env.now.names (settable (is_declared (declared_of c.args.declared.now)))) left
    c.in_ok-set_name.ensures c.keys.invariant

pub returns-clause-sets : goal.returns-clause-sets
returns-clause-sets g c =
    set_all c.keys.env.names c.keys.name-iterator
    (with_empty c.args.env.now.names (settable (is_declared (declared_of c.args.declared.now)))) (search rules)
    c.keys.invariant

pub returns-clause-names : goal.returns-clause-names
returns-clause-names g c =
    names_set c.args.env.now.names c.keys.env.names (settable (is_declared (declared_of c.args.declared.now)))
    (returns-clause-sets g c)
