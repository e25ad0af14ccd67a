use Rattle.std.proofs.Common.{Some, None}
use Rattle.std.proofs.lemmas.Result.{err_from_is_err_and}
use Rattle.dotenvy_editor.proofs.ChangedLines.{found_here, less_left, line_is_read, line_refused, read_next}
use Rattle.dotenvy_editor.proofs.ChangedLines.{so_far_all, so_far_changed, so_far_begun, so_far_kept}
use Rattle.dotenvy_editor.proofs.ToldEdits.{tells_all, tells_begun, tells_changed, tells_kept, told_read}
use Rattle.dotenvy_editor.proofs.editing.Editing.edit_lines.Goals as goal

pub lines-init : goal.lines-init
lines-init g c =
    let fresh = c.in_ok-lines.ensures in (
      so_far_begun c.args.body.now c.in_ok-lines.lines c.args.self.now fresh.0 fresh.1 c.requires.none c.requires.notes,
      tells_begun c.args.body.now c.in_ok-lines.lines c.args.self.now fresh.0 fresh.1 c.requires.none,
    )

pub read-requires : goal.read-requires
read-requires g c =
    let takes = rw c.in-Some.is at c.in_ok-slice.ensures.gives in
    read_next c.text.result.now c.text.ensures takes

pub change_line-requires : goal.change_line-requires
change_line-requires g c =
    let takes = rw c.in-Some.is at c.in_ok-slice.ensures.gives in
    let is = line_is_read {now = c.lines.self} {read = c.read.new.self} c.text.result.now _ c.text.ensures
    c.in_ok-assignment.ensures.same c.in_ok-assignment.ensures.notes
    (rw c.in-Some-2.is at c.in_ok-assignment.ensures.finds) in
    found_here takes is

pub lines-smaller-in_ok-change_line-in-Some-2 : goal.lines-smaller-in_ok-change_line-in-Some-2
lines-smaller-in_ok-change_line-in-Some-2 g c = less_left (rw c.in-Some.is at c.in_ok-slice.ensures.gives)

pub lines-preserved-in_ok-change_line-in-Some-2 : goal.lines-preserved-in_ok-change_line-in-Some-2
lines-preserved-in_ok-change_line-in-Some-2 g c =
    let takes = rw c.in-Some.is at c.in_ok-slice.ensures.gives in
    let is = line_is_read {now = c.lines.self} {read = c.read.new.self} c.text.result.now _ c.text.ensures
    c.in_ok-assignment.ensures.same c.in_ok-assignment.ensures.notes
    (rw c.in-Some-2.is at c.in_ok-assignment.ensures.finds) in
    let made = c.in_ok-change_line-in-Some-2.ensures in
    let tells = told_read c.lines.self.change (Some c.in-Some-2.assignment) c.lines.self.telling
    c.read.new.self.telling c.text.result.now takes c.text.ensures
    (rw c.in-Some-2.is at c.in_ok-assignment.ensures.told) in (
      so_far_changed c.in-Some-2.assignment c.lines.invariant.0 takes is made.found made.change made.notes made.changes,
      λ untold.
          tells_changed c.in-Some-2.assignment (c.lines.invariant.1 untold) takes is tells made.found made.change
          made.told,
    )

pub returns-in_err-change_line-in-Some-2-clause-refused : goal.returns-in_err-change_line-in-Some-2-clause-refused
returns-in_err-change_line-in-Some-2-clause-refused g c =
    let takes = rw c.in-Some.is at c.in_ok-slice.ensures.gives in
    let is = line_is_read {now = c.lines.self} {read = c.read.new.self} c.text.result.now _ c.text.ensures
    c.in_ok-assignment.ensures.same c.in_ok-assignment.ensures.notes
    (rw c.in-Some-2.is at c.in_ok-assignment.ensures.finds) in
    let given = c.from_residual-in_err-change_line-in-Some-2 in
    let failed = err_from_is_err_and given.result given.ensures.1 in
    rw (failed.1, failed.2) (line_refused c.in-Some-2.assignment c.in_err-change_line-in-Some-2.field-0.0
    c.lines.invariant.0 takes is c.in_err-change_line-in-Some-2.ensures.refused)

pub lines-smaller : goal.lines-smaller
lines-smaller g c = less_left (rw c.in-Some.is at c.in_ok-slice.ensures.gives)

pub lines-preserved : goal.lines-preserved
lines-preserved g c =
    let takes = rw c.in-Some.is at c.in_ok-slice.ensures.gives in
    let is = line_is_read {now = c.lines.self} {read = c.read.new.self} c.text.result.now _ c.text.ensures
    c.in_ok-assignment.ensures.same c.in_ok-assignment.ensures.notes
    (rw c.in-None.is at c.in_ok-assignment.ensures.finds) in
    let tells = told_read c.lines.self.change None c.lines.self.telling c.read.new.self.telling c.text.result.now
    takes c.text.ensures
    (rw c.in-None.is at c.in_ok-assignment.ensures.told) in (
      so_far_kept c.lines.invariant.0 takes is c.in_ok-keep-in-None.ensures.keeps c.in_ok-keep-in-None.ensures.same,
      λ untold.
          tells_kept (c.lines.invariant.1 untold) takes is tells c.in_ok-keep-in-None.ensures.same,
    )

pub returns-clause-all : goal.returns-clause-all
returns-clause-all g c =
    so_far_all c.lines.invariant.0 (rw c.in_default.is at c.in_ok-slice.ensures.gives).0

pub returns-clause-told : goal.returns-clause-told
returns-clause-told g c = λ untold.
    tells_all (c.lines.invariant.1 untold) (rw c.in_default.is at c.in_ok-slice.ensures.gives).0
