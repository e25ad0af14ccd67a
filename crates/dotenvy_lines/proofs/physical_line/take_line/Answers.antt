use Rattle.std.proofs.Common.{rules, ◌≡◌, length, string_bytes}
use Rattle.std.specs.Prelude.{string_len}
use Rattle.std.proofs.lemmas.Str.{chars-nil}
use Rattle.dotenvy_base.proofs.Basics.{tested_empty}
use Rattle.dotenvy_lines.proofs.physical_line.take_line.Goals as goal

pub returns-then-take_comment-clause-told : goal.returns-then-take_comment-clause-told
returns-then-take_comment-clause-told g c = λ a told.
    let text = string_bytes c.args.text.now in
    let len : string_len c.args.text.now ≡ length text = search rules in
    let taken = c.if-take_comment.ensures.comment.1 a told.0 in (
      taken.0,
      taken.1,
      rw (tested_empty text _ c.is_empty.result c.is_empty.ensures len c.if-is_empty.true) chars-nil,
      taken.2,
    )
