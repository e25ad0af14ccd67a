use Rattle.std.proofs.Common.{◌≡◌, ◌∷◌, rules}
use Rattle.dotenvy_checker.specs.Findings.{has_value}
use Rattle.dotenvy_checker.specs.Folders.{is_among}
use Rattle.dotenvy_checker.specs.Schema.{names_of}
use Rattle.dotenvy_checker.specs.inside.CheckedLines.{declared_of}
use Rattle.dotenvy_checker.proofs.NamesAmong.{added_all, added_more}
use Rattle.dotenvy_checker.proofs.schema.DeclaredNames.add.Goals as goal

pub keys-preserved : goal.keys-preserved
keys-preserved g c =
    let left : c.keys.name-iterator ≡ c.in-Some.name.now ∷ c.next.new.self = search rules in
    added_more c.keys.self.names c.insert.new.self c.in-Some.name.now c.in_ok-clone.field-0 c.keys.name-iterator
    c.next.new.self (has_value (is_among (names_of c.args.self.now)) (declared_of c.args.declared.now)) left
    (search rules) c.in_ok-insert.ensures.updates c.keys.invariant

pub returns : goal.returns
returns g c =
    added_all (is_among (names_of c.keys.self)) c.keys.name-iterator
    (has_value (is_among (names_of c.args.self.now)) (declared_of c.args.declared.now)) (search rules) c.keys.invariant
