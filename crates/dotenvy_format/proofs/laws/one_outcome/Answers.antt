use Rattle.dotenvy_format.proofs.statements.Outcomes.{outcome_of, outcome_of-is, one_outcome}
use Rattle.dotenvy_format.proofs.laws.one_outcome.Goals as goal

pub returns : goal.returns
returns c =
    λ dialect line. (
      outcome_of dialect line,
      outcome_of-is dialect line,
      λ other says. one_outcome dialect line other (outcome_of dialect line) says (outcome_of-is dialect line),
    )
