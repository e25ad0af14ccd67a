use Rattle.std.proofs.Common.{ℕ, List, ◌∷◌, Ok, Err, ap, subst, sym, ◌∙◌}
use Rattle.dotenvy_command.specs.Answers.{texts}
use Rattle.dotenvy_command.specs.Started.{IsOfStart}
use Rattle.dotenvy_command.proofs.run.run_command.Goals as goal

pub returns-in-Ok-clause-runs : goal.returns-in-Ok-clause-runs
returns-in-Ok-clause-runs g c =
    let words = ap (λ (w : List ℕ). w ∷ texts c.in-Some.arguments.now) c.as_str.ensures.value
    ∙ ap texts (sym c.in-Some.ensures.cases.0 ∙ c.deref.ensures.value) in (
      c.in_ok-env.env.names,
      subst (λ files. g.R.Loader.loads c.args.rt.now (texts files) c.args.line.now.dialect c.in_ok-env.env.names)
          c.as_slice.ensures.value c.in_ok-env.ensures,
      subst (λ w. IsOfStart (g.R.Starter.ends c.args.rt.now) w c.in_ok-env.env.names (Ok c.in-Ok.status))
          words c.in-Ok.ensures,
    )

pub returns-clause-runs : goal.returns-clause-runs
returns-clause-runs g c =
    let words = ap (λ (w : List ℕ). w ∷ texts c.in-Some.arguments.now) c.as_str.ensures.value
    ∙ ap texts (sym c.in-Some.ensures.cases.0 ∙ c.deref.ensures.value) in (
      c.in_ok-env.env.names,
      subst (λ files. g.R.Loader.loads c.args.rt.now (texts files) c.args.line.now.dialect c.in_ok-env.env.names)
          c.as_slice.ensures.value c.in_ok-env.ensures,
      subst (λ w. IsOfStart (g.R.Starter.ends c.args.rt.now) w c.in_ok-env.env.names (Err c.in-Err.fault))
          words c.in-Err.ensures,
    )
