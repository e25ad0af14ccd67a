use Rattle.std.proofs.Common.{◌≡◌, true, [], Ok, Err, refl, rules}
use Rattle.std.proofs.lemmas.Result.{err_from_is_err_and}
use Rattle.dotenvy_command.specs.Answers.{texts, line_of}
use Rattle.dotenvy_command.specs.Words.{MissingCommand}
use Rattle.dotenvy_command.proofs.WordGroups.{answers_memory, answers_refused, copied, ends}
use Rattle.dotenvy_command.proofs.WordGroups.{ends_without_command, no_texts, no_words, one_more}
use Rattle.dotenvy_command.proofs.command_line.command_line.Goals.{else-is_empty-via-then-is_empty+else-not-line}
use Rattle.dotenvy_command.proofs.command_line.command_line.Goals.{else-is_empty-via-else-is_empty}
use Rattle.dotenvy_command.proofs.command_line.command_line.Goals as goal

pub returns-in_err-clone : goal.returns-in_err-clone
returns-in_err-clone g c =
    answers_memory (texts c.args.words.now) c.from_residual.result c.from_residual.ensures.1

pub returns-in_err-clone-2 : goal.returns-in_err-clone-2
returns-in_err-clone-2 g c =
    answers_memory (texts c.args.words.now) c.from_residual-in_err-clone-2.result
    c.from_residual-in_err-clone-2.ensures.1

pub returns-in_err-group : goal.returns-in_err-group
returns-in_err-group g c =
    let p = err_from_is_err_and c.from_residual-in_err-group.result c.from_residual-in_err-group.ensures.1 in
    rw (p.1, p.2)
    (answers_refused (texts c.args.words.now) (texts c.groups.rest.now)
    (line_of c.groups.line) c.in_err-group.field-0.0 c.groups.invariant c.in_err-group.ensures)

pub returns-in_err-add : goal.returns-in_err-add
returns-in_err-add g c =
    answers_memory (texts c.args.words.now) c.from_residual-in_err-add.result c.from_residual-in_err-add.ensures.1

pub groups-preserved : goal.groups-preserved
groups-preserved g c =
    let begins = rw c.in-Some.is at c.in_ok-group.ensures in
    rw (c.in_ok-add.ensures begins.0 begins.3)
    (one_more (texts c.args.words.now) (texts c.groups.rest.now) (texts c.in-Some.after.now)
    (line_of c.groups.line) begins.0 c.groups.invariant begins.1 begins.2)

pub returns-then-not-line : goal.returns-then-not-line
returns-then-not-line g c = (
  Err MissingCommand,
  ends_without_command (texts c.args.words.now) (texts c.groups.rest.now) (line_of c.groups.line) c.groups.invariant
      (no_texts c.groups.rest.now (search rules)) c.if-not-line.true,
  refl,
)

pub returns-in_err-line : goal.returns-in_err-line
returns-in_err-line g c =
    answers_memory (texts c.args.words.now) c.from_residual-in_err-line.result c.from_residual-in_err-line.ensures.1

pub returns : goal.returns
returns g c =
    let line = line_of c.groups.line in
    let command = rw c.in_default.is at c.in_ok-group.ensures in
    let listed : texts c.groups.rest.now ≡ [] → c.groups.line.list ≡ true =
    λ none.
    let empty = no_words c.groups.rest.now none in
    elim c.else-is_empty.branch [
      | else-is_empty-via-then-is_empty+else-not-line w ↦ search rules
      | else-is_empty-via-else-is_empty w ↦ search rules
    ] in (
      Ok (record line { command = texts c.groups.rest.now }),
      ends (texts c.args.words.now) (texts c.groups.rest.now) line c.groups.invariant command listed,
      rw (copied c.groups.rest.now c.in_ok-line.field-0.items c.in_ok-line.ensures.items) refl,
    )
