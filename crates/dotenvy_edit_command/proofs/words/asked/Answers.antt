use Rattle.std.proofs.lemmas.Result.{err_from_is_err_and}
use Rattle.std.specs.Prelude.{codes}
use Rattle.clap.specs.Words.{found_of, rows_of}
use Rattle.dotenvy_words.proofs.FoundValues.{first_by, values_by}
use Rattle.dotenvy_edit_command.proofs.CommandWords.{found_refused}
use Rattle.dotenvy_edit_command.proofs.words.asked.Goals as goal
use Rattle.dotenvy_edit_command.proofs.words.asked.Goals.{in-Some-get_strs+in_ok-task_of-in-Some-get_strs}
use Rattle.dotenvy_edit_command.proofs.words.asked.Goals.{in-None+in_ok-file-in-None}

pub returns-in_default : goal.returns-in_default
returns-in_default g c =
    first_by (found_of c.args.found.now) (codes "command") _ (rw c.in_default.is at c.get_str.ensures)

pub returns-in_err-task_of-in-Some-get_strs : goal.returns-in_err-task_of-in-Some-get_strs
returns-in_err-task_of-in-Some-get_strs g c =
    let found = found_of c.args.found.now in
    let refused = err_from_is_err_and c.from_residual.result c.from_residual.ensures.1 in
    let command = first_by found (codes "command") _ (rw c.in-Some.is at c.get_str.ensures) in
    let words = values_by found (codes "file") _ (rw c.in-Some-get_strs.is at c.get_strs.ensures) in
    rw (refused.1, refused.2)
    (found_refused (rows_of found) c.in-Some.command.now c.in_err-task_of-in-Some-get_strs.field-0.0 command
    (rw words c.in_err-task_of-in-Some-get_strs.ensures))

pub returns-in_err-file-in-None : goal.returns-in_err-file-in-None
returns-in_err-file-in-None g c =
    let found = found_of c.args.found.now in
    let refused = err_from_is_err_and c.from_residual-in_err-file-in-None.result
    c.from_residual-in_err-file-in-None.ensures.1 in
    let command = first_by found (codes "command") _ (rw c.in-Some.is at c.get_str.ensures) in
    let words = values_by found (codes "file") _ (rw c.in-None.is at c.get_strs.ensures) in
    rw (refused.1, refused.2)
    (found_refused (rows_of found) c.in-Some.command.now c.in_err-file-in-None.field-0.0 command
    (rw words c.in_err-file-in-None.ensures))

pub returns : goal.returns
returns g c =
    let found = found_of c.args.found.now in
    let command = first_by found (codes "command") _ (rw c.in-Some.is at c.get_str.ensures) in (
      c.in-Some.command.now,
      command,
      elim c.match-get_strs.branch [
        | in-Some-get_strs+in_ok-task_of-in-Some-get_strs w ↦ (
            let words = values_by found (codes "file") _ (rw w.in-Some-get_strs.is at c.get_strs.ensures) in
            rw (w.file-is, words) w.in_ok-task_of-in-Some-get_strs.ensures)
        | in-None+in_ok-file-in-None w ↦ (
            let words = values_by found (codes "file") _ (rw w.in-None.is at c.get_strs.ensures) in
            rw (w.file-is, words) w.in_ok-file-in-None.ensures)
      ],
      c.how_of.ensures,
    )
