use Rattle.std.proofs.Common.{inl, inr, ◌∙◌}
use Rattle.std.proofs.lemmas.Bool.{cases_Bool}
use Rattle.std.proofs.lemmas.Result.{err_from_is_err_and}
use Rattle.dotenvy_editor.specs.declared.writing.Setting.{Setting}
use Rattle.dotenvy_editor.proofs.ChangedLines.{refused_as}
use Rattle.dotenvy_editor.proofs.EditedBodies.{append_refuses, set_refuses, sets_absent, sets_found}
use Rattle.dotenvy_editor.proofs.ToldFiles.{set_tells, untold_still}
use Rattle.dotenvy_editor.proofs.edit.set.Goals as goal

pub returns-in_err-edit_lines-clause-refused : goal.returns-in_err-edit_lines-clause-refused
returns-in_err-edit_lines-clause-refused g c =
    let setting : Setting = record { key = c.args.key; value = c.args.value; how = c.args.how } in
    let given = c.from_residual-in_err-edit_lines in
    let failed = err_from_is_err_and given.result given.ensures.1 in
    rw (failed.1, failed.2) (refused_as c.in_err-edit_lines.field-0.0 (set_refuses setting c.args.bytes.now)
    (rw (c.in_ok-editing.ensures.change, c.split_mark.ensures.body) at c.in_err-edit_lines.ensures.refused))

pub returns-in_err-append-clause-refused : goal.returns-in_err-append-clause-refused
returns-in_err-append-clause-refused g c =
    let setting : Setting = record { key = c.args.key; value = c.args.value; how = c.args.how } in
    let told = record c.in_ok-editing.editing { telling = c.tell_dollar.new.self } in
    let given = c.from_residual-in_err-append in
    let failed = err_from_is_err_and given.result given.ensures.1 in
    let all = rw c.split_mark.ensures.body at c.in_ok-edit_lines.ensures.all in
    rw (failed.1, failed.2) (refused_as c.in_err-append.field-0.0 (λ reason line (none, refuses).
    append_refuses setting c.args.bytes.now told c.edit_lines.new.self reason line c.in_ok-editing.ensures.change none
    all refuses) c.in_err-append.ensures.refused)

pub returns-clause-sets : goal.returns-clause-sets
returns-clause-sets g c =
    let setting : Setting = record { key = c.args.key; value = c.args.value; how = c.args.how } in
    let told = record c.in_ok-editing.editing { telling = c.tell_dollar.new.self } in
    let is = c.in_ok-editing.ensures.change in
    let marked = c.in_ok-editing.ensures.out ∙ c.split_mark.ensures.mark in
    let all = rw c.split_mark.ensures.body at c.in_ok-edit_lines.ensures.all in
    rw c.finish.ensures.bytes (elim (cases_Bool c.edit_lines.new.self.is_found) [
      | inl found ↦
          rw (c.in_ok-append.ensures.found found) (sets_found setting c.args.bytes.now told c.edit_lines.new.self is
          marked found all)
      | inr none ↦
          sets_absent setting c.args.bytes.now c.append.new.self.out.items told c.edit_lines.new.self is marked none all
          (rw c.split_mark.ensures.body at (c.in_ok-append.ensures.appends none))
    ])

pub returns-clause-told : goal.returns-clause-told
returns-clause-told g c =
    let setting : Setting = record { key = c.args.key; value = c.args.value; how = c.args.how } in
    let untold = untold_still c.in_ok-editing.ensures.untold c.tell_dollar.ensures.same
    c.in_ok-tell_dollar.ensures.told in
    rw c.finish.ensures.warnings
    (set_tells setting c.args.bytes.now c.edit_lines.new.self.is_found c.in_ok-editing.ensures.nothing
    c.in_ok-tell_dollar.ensures.told
    (rw (c.in_ok-editing.ensures.change, c.split_mark.ensures.body) at (c.in_ok-edit_lines.ensures.told) untold)
    c.in_ok-append.ensures.told)
