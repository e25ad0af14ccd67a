use Rattle.std.proofs.Common.{inl, inr, refl}
use Rattle.std.proofs.lemmas.Result.{err_from_is_err_and}
use Rattle.dotenvy_words.specs.Found.{texts}
use Rattle.dotenvy_edit_command.proofs.TaskSteps.{memory_right, taken_by, taken_fails}
use Rattle.dotenvy_edit_command.proofs.run.done.Goals as goal

pub returns-in_err-words-clause-taken : goal.returns-in_err-words-clause-taken
returns-in_err-words-clause-taken g c = λ taken.
    let refused = err_from_is_err_and c.from_residual-in_err-words.result c.from_residual-in_err-words.ensures.1 in
    let memory = taken_fails (texts c.args.words.now) taken c.in_err-words.field-0.0 c.in_err-words.ensures in
    rw (refused.1, refused.2) (memory_right c.in_err-words.field-0.0 memory)

pub returns-in_err-words-clause-tasks : goal.returns-in_err-words-clause-tasks
returns-in_err-words-clause-tasks g c = λ taken.
    let refused = err_from_is_err_and c.from_residual-in_err-words.result c.from_residual-in_err-words.ensures.1 in
    let memory = taken_fails (texts c.args.words.now) taken c.in_err-words.field-0.0 c.in_err-words.ensures in
    rw (refused.1, refused.2) (inl (memory, refl, refl, refl))

pub returns-in-Act-clause-mistaken : goal.returns-in-Act-clause-mistaken
returns-in-Act-clause-mistaken g c = λ mistaken.
    let request = rw c.in-Act.is at c.in_ok-words.ensures in
    absurd (mistaken.0 (taken_by (texts c.args.words.now) c.in-Act.words request))

pub returns-in-Act-clause-tasks : goal.returns-in-Act-clause-tasks
returns-in-Act-clause-tasks g c = λ taken.
    let request = rw c.in-Act.is at c.in_ok-words.ensures in
    inr (c.in-Act.words, request, c.act_on.ensures.does)
