use Rattle.std.proofs.Common.{rules, ap, ◌∙◌}
use Rattle.dotenvy_base.proofs.TextMaps.{pairs-passed_by, pairs-again, pairs-new}
use Rattle.dotenvy_base.proofs.environment.Environment.from_pairs.Goals as goal
use Rattle.dotenvy_base.proofs.environment.Environment.from_pairs.Goals.{else-is_name-via-else-is_name}
use Rattle.dotenvy_base.proofs.environment.Environment.from_pairs.Goals.{else-is_name-via-then-is_name+else-is_value}
use Rattle.dotenvy_base.proofs.environment.Environment.from_pairs.Goals.{
  else-is_name-via-then-is_name+then-is_value+else-not-contains,
}

pub loop-name-preserved-then-not-contains : goal.loop-name-preserved-then-not-contains
loop-name-preserved-then-not-contains g c = record {
  names =
      ap (λ e. e.names) c.in_ok-set.ensures.ok
      ∙ pairs-new c.loop-name.env.names c.loop-name.yielded c.in-Some.name c.in-Some.value
      c.loop-name.invariant.names (search rules) (search rules);
  mark = search rules;
}

pub loop-name-preserved : goal.loop-name-preserved
loop-name-preserved g c = record {
  names = elim c.else-is_name.branch [
    | else-is_name-via-then-is_name+then-is_value+else-not-contains w ↦
        pairs-again c.loop-name.env.names c.loop-name.yielded c.in-Some.name c.in-Some.value
        c.loop-name.invariant.names (search rules) (search rules)
    | else-is_name-via-then-is_name+else-is_value w ↦
        pairs-passed_by c.loop-name.env.names c.loop-name.yielded c.in-Some.name c.in-Some.value
        c.loop-name.invariant.names (search rules)
    | else-is_name-via-else-is_name w ↦
        pairs-passed_by c.loop-name.env.names c.loop-name.yielded c.in-Some.name c.in-Some.value
        c.loop-name.invariant.names (search rules)
  ];
  mark = c.loop-name.invariant.mark;
}
