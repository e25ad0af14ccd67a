use Rattle.std.proofs.Common.{◌∙◌}
use Rattle.std.proofs.lemmas.Result.{err_from_is_err_and}
use Rattle.dotenvy_editor.proofs.ChangedLines.{refused_as}
use Rattle.dotenvy_editor.proofs.EditedBodies.{unset_refuses, unset_refuses_none, unsets}
use Rattle.dotenvy_editor.proofs.ToldFiles.{unset_tells}
use Rattle.dotenvy_editor.proofs.edit.unset.Goals as goal

pub returns-in_err-edit_lines-clause-refused : goal.returns-in_err-edit_lines-clause-refused
returns-in_err-edit_lines-clause-refused g c =
    let given = c.from_residual-in_err-edit_lines in
    let failed = err_from_is_err_and given.result given.ensures.1 in
    rw (failed.1, failed.2)
    (refused_as c.in_err-edit_lines.field-0.0
    (λ reason line refuses.
    unset_refuses c.args.key c.args.dialect c.args.bytes.now reason line
    (rw (c.in_ok-editing.ensures.change, c.split_mark.ensures.body) at refuses))
    c.in_err-edit_lines.ensures.refused)

pub returns-in_err-check_found-clause-refused : goal.returns-in_err-check_found-clause-refused
returns-in_err-check_found-clause-refused g c =
    let given = c.from_residual-in_err-check_found in
    let failed = err_from_is_err_and given.result given.ensures.1 in
    let all = rw c.split_mark.ensures.body at c.in_ok-edit_lines.ensures.all in
    rw (failed.1, failed.2)
    (refused_as c.in_err-check_found.field-0.0
    (λ reason line (found, none).
    unset_refuses_none c.args.key c.args.dialect c.args.bytes.now c.in_ok-editing.editing c.edit_lines.new.self reason
    line c.in_ok-editing.ensures.change found all none)
    c.in_err-check_found.ensures.refused)

pub returns-clause-unsets : goal.returns-clause-unsets
returns-clause-unsets g c =
    let all = rw c.split_mark.ensures.body at c.in_ok-edit_lines.ensures.all in
    rw c.finish.ensures.bytes
    (unsets c.args.key c.args.dialect c.args.bytes.now c.in_ok-editing.editing c.edit_lines.new.self
    c.in_ok-editing.ensures.change (c.in_ok-editing.ensures.out ∙ c.split_mark.ensures.mark)
    c.in_ok-check_found.ensures.found all)

pub returns-clause-told : goal.returns-clause-told
returns-clause-told g c =
    rw c.finish.ensures.warnings
    (unset_tells c.args.key c.args.dialect c.args.bytes.now c.in_ok-editing.ensures.nothing
    (rw (c.in_ok-editing.ensures.change, c.split_mark.ensures.body) at c.in_ok-edit_lines.ensures.told
    c.in_ok-editing.ensures.untold))
