use Rattle.dotenvy_c.proofs.Answered.{answered, no_text_is_text, text_is_text}
use Rattle.dotenvy_c.proofs.edit.answer_set.Goals as goal

pub returns-in_default-clause-value : goal.returns-in_default-clause-value
returns-in_default-clause-value c = λ known key value.
    absurd (no_text_is_text c.args.key.now c.in_default.ensures.cases.0 key)

pub returns-in_default-clause-sets : goal.returns-in_default-clause-sets
returns-in_default-clause-sets c = λ known key value.
    absurd (no_text_is_text c.args.key.now c.in_default.ensures.cases.0 key)

pub returns-in_default-from_utf8-clause-key : goal.returns-in_default-from_utf8-clause-key
returns-in_default-from_utf8-clause-key c = λ known key.
    absurd (text_is_text c.args.key.now c.in-Ok.ensures.cases.1 key)

pub returns-in_default-from_utf8-clause-sets : goal.returns-in_default-from_utf8-clause-sets
returns-in_default-from_utf8-clause-sets c = λ known key value.
    absurd (no_text_is_text c.args.value.now c.in_default-from_utf8.ensures.cases.0 value)

pub returns-clause-key : goal.returns-clause-key
returns-clause-key c = λ known key. absurd (text_is_text c.args.key.now c.in-Ok.ensures.cases.1 key)

pub returns-clause-value : goal.returns-clause-value
returns-clause-value c = λ known key value.
    absurd (text_is_text c.args.value.now c.in-Ok-from_utf8.ensures.cases.1 value)

pub returns-clause-sets : goal.returns-clause-sets
returns-clause-sets c =
    let key = c.in-Ok.ensures.cases.0 in
    let value = c.in-Ok-from_utf8.ensures.cases.0 in
    let how = c.how_of.ensures in
    λ known is_key is_value.
    answered c.set-outcome.result (rw (key, value, how) at c.set-outcome.ensures.sets)
    (rw (key, value, how) at c.set-outcome.ensures.refused) c.answer_edit.ensures
