use Rattle.std.proofs.Common.{◌≡◌, ℕ, ◌∷◌, ◌++◌, map, Ok, string_bytes, refl, ◌∙◌, rules}
use Rattle.std.proofs.lemmas.Simd.{map-map}
use Rattle.std.proofs.lemmas.Iterator.{YieldsList-from_slice}
use Rattle.std.proofs.lemmas.Iterator.Adapters.{fact_from_extend}
use Rattle.std.specs.Process.{command_args}
use Rattle.dotenvy_command.proofs.CommandNames.{SetsWithLeft, none_set, one_set}
use Rattle.dotenvy_command.proofs.prepared.Prepared.new.Goals as goal

pub names-init : goal.names-init
names-init g c =
    let none = command_args c.in_ok-command.command in
    let added : command_args c.in_ok-args.field-0.now ≡ none ++ map string_bytes c.args.arguments.now =
    fact_from_extend {E = ℕ} (λ y. y.now) (Ok tt) c.in_ok-args.ensures.args (λ it b. YieldsList-from_slice _ b.0)
    (λ xs e h. h (λ _. refl) ∙ rw (← e, map-map) refl) in
    record {
      names =
          rw (c.into_iter-name-iterator.ensures.into_iter_gives ∙ c.iter-name-items.ensures.pairs)
          (none_set c.args.env.now.names _
          (λ name. let none = c.in_ok-args.ensures.env.1 name ∙ c.in_ok-command.ensures.vars name in
          search rules));
      program = search rules;
      arguments = search rules;
      inherits = search rules;
      directory = search rules;
    }

pub names-preserved : goal.names-preserved
names-preserved g c = record {
  names =
      let left : SetsWithLeft c.args.env.now.names
      ((string_bytes c.in-Some.name.now, string_bytes c.in-Some.value.now) ∷ c.next.new.self) c.names.command =
      search rules in
      one_set c.args.env.now.names _ _ _ c.names.command _ left (search rules)
      (λ name differs. let same = c.in_ok-env.ensures.others name differs in search rules);
  program = search rules;
  arguments = search rules;
  inherits = search rules;
  directory = search rules;
}
