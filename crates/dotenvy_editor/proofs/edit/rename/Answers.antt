use Rattle.std.proofs.Common.{◌∙◌}
use Rattle.std.proofs.lemmas.Result.{err_from_is_err_and}
use Rattle.dotenvy_editor.proofs.ChangedLines.{refused_as}
use Rattle.dotenvy_editor.proofs.EditedBodies.{rename_refuses, rename_refuses_none, renames}
use Rattle.dotenvy_editor.proofs.ToldFiles.{rename_tells}
use Rattle.dotenvy_editor.proofs.edit.rename.Goals as goal

pub returns-in_err-check_found-clause-refused : goal.returns-in_err-check_found-clause-refused
returns-in_err-check_found-clause-refused g c =
    let given = c.from_residual-in_err-check_found in
    let failed = err_from_is_err_and given.result given.ensures.1 in
    let all = rw c.split_mark.ensures.body at c.in_ok-edit_lines.ensures.all in
    rw (failed.1, failed.2)
    (refused_as c.in_err-check_found.field-0.0
    (λ reason line (found, none).
    rename_refuses_none c.args.old c.args.new c.args.dialect c.args.bytes.now c.in_ok-editing.editing
    c.edit_lines.new.self reason line c.in_ok-editing.ensures.change found all none)
    c.in_err-check_found.ensures.refused)

pub returns-in-Some-clause-refused : goal.returns-in-Some-clause-refused
returns-in-Some-clause-refused g c =
    let all = rw c.split_mark.ensures.body at c.in_ok-edit_lines.ensures.all in
    rw c.refused.ensures
    (rename_refuses c.args.old c.args.new c.args.dialect c.args.bytes.now c.in_ok-editing.editing
    c.edit_lines.new.self c.in-Some.line c.in_ok-editing.ensures.change c.in-Some.is all)

pub returns-in-None-clause-renames : goal.returns-in-None-clause-renames
returns-in-None-clause-renames g c =
    let all = rw c.split_mark.ensures.body at c.in_ok-edit_lines.ensures.all in
    rw c.finish.ensures.bytes
    (renames c.args.old c.args.new c.args.dialect c.args.bytes.now c.in_ok-editing.editing c.edit_lines.new.self
    c.in_ok-editing.ensures.change (c.in_ok-editing.ensures.out ∙ c.split_mark.ensures.mark)
    c.in_ok-check_found.ensures.found c.in-None.is all)

pub returns-in-None-clause-told : goal.returns-in-None-clause-told
returns-in-None-clause-told g c =
    rw c.finish.ensures.warnings
    (rename_tells c.args.old c.args.new c.args.dialect c.args.bytes.now c.in_ok-editing.ensures.nothing
    c.in_ok-check_found.ensures.found
    (rw (c.in_ok-editing.ensures.change, c.split_mark.ensures.body) at c.in_ok-edit_lines.ensures.told
    c.in_ok-editing.ensures.untold))
