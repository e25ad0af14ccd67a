use Rattle.dotenvy_c.proofs.Answered.{no_text_is_text, text_is_text}
use Rattle.dotenvy_c.proofs.write.answer_write.Goals as goal

pub returns-in_default-clause-value : goal.returns-in_default-clause-value
returns-in_default-clause-value c = λ known key is_key value.
    absurd (no_text_is_text c.args.key.now c.in_default.ensures.cases.0 key)

pub returns-in_default-clause-writes : goal.returns-in_default-clause-writes
returns-in_default-clause-writes c = λ known key is_key value.
    absurd (no_text_is_text c.args.key.now c.in_default.ensures.cases.0 key)

pub returns-in_default-from_utf8-clause-text : goal.returns-in_default-from_utf8-clause-text
returns-in_default-from_utf8-clause-text c = λ known key.
    absurd (text_is_text c.args.key.now c.in-Ok.ensures.cases.1 key)

pub returns-in_default-from_utf8-clause-writes : goal.returns-in_default-from_utf8-clause-writes
returns-in_default-from_utf8-clause-writes c = λ known key is_key value.
    absurd (no_text_is_text c.args.value.now c.in_default-from_utf8.ensures.cases.0 value)

pub returns-in_default-written-clause-text : goal.returns-in_default-written-clause-text
returns-in_default-written-clause-text c = λ known key.
    absurd (text_is_text c.args.key.now c.in-Ok.ensures.cases.1 key)

pub returns-in_default-written-clause-value : goal.returns-in_default-written-clause-value
returns-in_default-written-clause-value c = λ known key is_key value.
    absurd (text_is_text c.args.value.now c.in-Ok-from_utf8.ensures.cases.1 value)

pub returns-clause-text : goal.returns-clause-text
returns-clause-text c = λ known key. absurd (text_is_text c.args.key.now c.in-Ok.ensures.cases.1 key)

pub returns-clause-value : goal.returns-clause-value
returns-clause-value c = λ known key is_key value.
    absurd (text_is_text c.args.value.now c.in-Ok-from_utf8.ensures.cases.1 value)
