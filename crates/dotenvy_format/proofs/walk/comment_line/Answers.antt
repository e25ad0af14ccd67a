use Rattle.std.proofs.Common.{drop}
use Rattle.dotenvy_format.specs.Characters.{hash}
use Rattle.dotenvy_format.proofs.bytes.ByteLines.{first_is}
use Rattle.dotenvy_format.proofs.lines.CommentLines.{comment_or_none, first_of_comment}
use Rattle.dotenvy_format.proofs.walk.comment_line.Goals as goal
use Rattle.dotenvy_format.proofs.walk.comment_line.Goals.{in_default-via-in-Some+in_default, in_default-via-in_default}

pub returns-in-Some-eq35 : goal.returns-in-Some-eq35
returns-in-Some-eq35 c =
    let found = c.in-Some-eq35 in
    let first = first_is c.args.bytes.now found.field-0.now hash found.ensures.value found.field-0-test in
    comment_or_none c.line_of.result (drop 1 c.args.bytes.now) first c.line_of.ensures

pub returns-in_default : goal.returns-in_default
returns-in_default c = λ line is.
    let value = first_of_comment is in
    elim c.in_default.branch [
      | in_default-via-in-Some+in_default w ↦
          let same = rw w.in_default.is at c.first.ensures.value in w.in_default.field-0-test.1 cc
      | in_default-via-in_default w ↦ let none = rw w.in_default.is at c.first.ensures.value in cc
    ]
