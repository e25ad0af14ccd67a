use Rattle.dotenvy_c.proofs.Answered.{answered, no_text_is_text, text_is_text}
use Rattle.dotenvy_c.proofs.edit.answer_unset.Goals as goal

pub returns-in_default-clause-unsets : goal.returns-in_default-clause-unsets
returns-in_default-clause-unsets c = λ known key.
    absurd (no_text_is_text c.args.key.now c.in_default.ensures.cases.0 key)

pub returns-clause-key : goal.returns-clause-key
returns-clause-key c = λ known key. absurd (text_is_text c.args.key.now c.in-Ok.ensures.cases.1 key)

pub returns-clause-unsets : goal.returns-clause-unsets
returns-clause-unsets c =
    let key = c.in-Ok.ensures.cases.0 in
    let dialect = c.dialect_of.ensures in
    λ known is_key.
    answered c.unset-outcome.result (rw (key, dialect) at c.unset-outcome.ensures.unsets)
    (rw (key, dialect) at c.unset-outcome.ensures.refused) c.answer_edit.ensures
