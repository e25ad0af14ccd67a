use Rattle.std.proofs.Common.{not, refl, sym, ap, ◌∙◌, inl, inr}
use Rattle.std.proofs.lemmas.Result.{err_from_is_err_and}
use Rattle.dotenvy_command.specs.Answers.{texts}
use Rattle.dotenvy_command.proofs.RunEnds.{asks_for, lists_both, not_refused, only_memory, says_usage}
use Rattle.dotenvy_command.proofs.run.run.Goals as goal
use Rattle.std.proofs.Common.{Err}

pub returns-in_err-line-clause-usage : goal.returns-in_err-line-clause-usage
returns-in_err-line-clause-usage g c = λ usage is.
    let p = err_from_is_err_and c.from_residual.result c.from_residual.ensures.1 in
    rw (p.1, p.2) (says_usage (texts c.args.words.now) (Err usage)
    (Err c.in_err-line.field-0.0) c.in_err-line.ensures is)

pub returns-in_err-line-clause-lists : goal.returns-in_err-line-clause-lists
returns-in_err-line-clause-lists g c = λ line (is, listed).
    let p = err_from_is_err_and c.from_residual.result c.from_residual.ensures.1 in
    rw (p.1, p.2) (inl (only_memory (texts c.args.words.now) line c.in_err-line.field-0.0 c.in_err-line.ensures is))

pub returns-in_err-line-clause-command : goal.returns-in_err-line-clause-command
returns-in_err-line-clause-command g c = λ line (is, unlisted).
    let p = err_from_is_err_and c.from_residual.result c.from_residual.ensures.1 in (
      rw (p.1, p.2) (inl (only_memory
          (texts c.args.words.now) line c.in_err-line.field-0.0 c.in_err-line.ensures is)),
      refl,
      refl,
    )

pub returns-then-line-clause-usage : goal.returns-then-line-clause-usage
returns-then-line-clause-usage g c =
    λ usage is. absurd (not_refused (texts c.args.words.now) usage c.in_ok-line.line c.in_ok-line.ensures is)

pub returns-then-line-clause-lists : goal.returns-then-line-clause-lists
returns-then-line-clause-lists g c = λ line (is, listed).
    inr (rw (asks_for (texts c.args.words.now) line c.in_ok-line.line c.in_ok-line.ensures is) c.list.ensures.lists)

pub returns-then-line-clause-command : goal.returns-then-line-clause-command
returns-then-line-clause-command g c = λ line (is, unlisted).
    absurd (lists_both (texts c.args.words.now) line c.in_ok-line.line c.in_ok-line.ensures is
    (c.if-line.true ∙ ap not (sym unlisted)))

pub returns-clause-usage : goal.returns-clause-usage
returns-clause-usage g c =
    λ usage is. absurd (not_refused (texts c.args.words.now) usage c.in_ok-line.line c.in_ok-line.ensures is)

pub returns-clause-lists : goal.returns-clause-lists
returns-clause-lists g c = λ line (is, listed).
    absurd (lists_both (texts c.args.words.now) line c.in_ok-line.line c.in_ok-line.ensures is
    (c.if-line.false ∙ ap not (sym listed)))

pub returns-then-line-clause-runs : goal.returns-then-line-clause-runs
returns-then-line-clause-runs g c = λ line (is, unlisted).
    absurd (lists_both (texts c.args.words.now) line c.in_ok-line.line c.in_ok-line.ensures is
    (c.if-line.true ∙ ap not (sym unlisted)))

pub returns-clause-runs : goal.returns-clause-runs
returns-clause-runs g c = λ line (is, unlisted).
    rw (asks_for (texts c.args.words.now) line c.in_ok-line.line c.in_ok-line.ensures is) c.run_command.ensures.runs
