use Rattle.std.proofs.Common.{◌∙◌, ◌++◌, ◌-◌, drop, length, subst, sym, take}
use Rattle.std.specs.Str.{chars}
use Rattle.dotenvy_editor.specs.Edits.{RenamesLine}
use Rattle.dotenvy_editor.specs.inside.Noted.{slice_of}
use Rattle.dotenvy_editor.proofs.RenamedLines.{named_cut, three_appended}
use Rattle.dotenvy_editor.proofs.editing.Editing.rename_line.Goals as goal

pub overflow_sub-end : goal.overflow_sub-end
overflow_sub-end g c =
    (named_cut c.requires.line c.key_end-end.ensures c.key.utf8 (c.key.ensures ∙ sym c.requires.key)).long

pub split_at-requires : goal.split_at-requires
split_at-requires g c =
    (named_cut c.requires.line c.key_end-end.ensures c.key.utf8 (c.key.ensures ∙ sym c.requires.key)).within_front

pub split_at-requires-2 : goal.split_at-requires-2
split_at-requires-2 g c =
    (named_cut c.requires.line c.key_end-end.ensures c.key.utf8 (c.key.ensures ∙ sym c.requires.key)).within

pub returns-clause-renames : goal.returns-clause-renames
returns-clause-renames g c =
    let cut = named_cut c.requires.line c.key_end-end.ensures c.key.utf8 (c.key.ensures ∙ sym c.requires.key) in
    let front = take (c.key_end-end.result - length c.key.result.now) c.args.assignment.slice.bytes.now in
    let later = drop c.key_end-end.result c.args.assignment.slice.bytes.now in
    let made = front ++ (c.args.new.now ++ later) in (
      made,
      subst (λ key. RenamesLine key (chars c.args.new.now) (slice_of c.args.assignment) made) c.requires.key
          (cut.renamed c.args.new.now c.utf8.new),
      three_appended c.args.self.now.out.items _ _ _ front c.args.new.now later
          c.in_ok-extend_from_slice.ensures.items c.in_ok-extend_from_slice-2.ensures.items
          c.in_ok-extend_from_slice-3.ensures.items c.split_at.ensures.front c.as_bytes.ensures.value
          c.split_at-2.ensures.back,
    )
