use Rattle.std.proofs.Common.{◌≡◌, ◌∙◌, [], true, ap, arith, refl, rules, string_bytes}
use Rattle.std.specs.FinMap as fin
use Rattle.dotenvy_base.specs.Environment.{name_ok}
use Rattle.dotenvy_checker.proofs.EmptyValues.{set_one}
use Rattle.dotenvy_checker.proofs.declared.set_name.Goals.{in-Ok, in-Err}
use Rattle.dotenvy_checker.proofs.declared.set_name.Goals as goal

pub returns : goal.returns
returns g c =
    let same : string_bytes c.in_ok-clone-2.field-0 ≡ string_bytes c.args.name.now = search rules in
    let good : name_ok (string_bytes c.args.name.now) ≡ true = first_of (search rules, grind arith) in
    let none : string_bytes c.new-value.result ≡ [] = search rules in
    let has = ap (λ text. fin.contains_key c.args.env.now.names text) same in
    elim c.match-set_absent.branch [
      | in-Ok w ↦ rw w.result-is
          (set_one c.args.env.now.names c.set_absent.new.env.names (string_bytes c.args.name.now) good
          (λ there. ap (λ env. env.names) (c.set_absent.ensures.kept (has ∙ there)).1)
          (λ absent. ap (λ env. env.names) (w.in-Ok.ensures.ok (has ∙ absent)).1 ∙ (rw (same, none) refl)))
      | in-Err w ↦ rw w.result-is tt
    ]
