use Rattle.std.proofs.Common.{◌≡◌, ◌∙◌, [], ap, arith, length, sym}
use Rattle.std.specs.Str.{chars}
use Rattle.std.proofs.lemmas.Str.{chars-nil, encodes-chars}
use Rattle.dotenvy_format.proofs.bytes.Slices.{begins_shorter}
use Rattle.dotenvy_editor.proofs.TailPasses.{read_all, read_more, read_tail}
use Rattle.dotenvy_editor.proofs.TrimmedTexts.{front_and_left}
use Rattle.dotenvy_editor.proofs.tail.meant_len.Goals as goal

pub overflow_sub-result : goal.overflow_sub-result
overflow_sub-result c =
    let so = c.characters.invariant.1 in
    let total =
    front_and_left c.args.value.now c.characters.rest.now so.front c.utf8.value c.characters.invariant.0 so.spelled in
    omega (arith, total)

pub returns-then-is_tail : goal.returns-then-is_tail
returns-then-is_tail c =
    let so = c.characters.invariant.1 in
    let total =
    front_and_left c.args.value.now c.characters.rest.now so.front c.utf8.value c.characters.invariant.0 so.spelled in
    rw (read_tail c.in-Some.first (chars c.in-Some.later.now) so c.in-Some.ensures.characters c.after-reading.ensures
    (sym c.if-is_tail.ensures)) (omega (arith, total))

pub characters-smaller : goal.characters-smaller
characters-smaller c = begins_shorter c.in-Some.ensures

pub characters-preserved : goal.characters-preserved
characters-preserved c = (
  c.in-Some.ensures.follows,
  read_more c.in-Some.first (chars c.in-Some.later.now) c.characters.invariant.1 c.in-Some.ensures.characters
      c.after-reading.ensures (sym c.if-is_tail.ensures),
)

pub returns : goal.returns
returns c =
    let none : chars c.characters.rest.now ≡ [] = ap chars c.in_default.ensures ∙ chars-nil in
    rw (read_all c.characters.invariant.1 none) (ap length (sym (encodes-chars c.args.value.now c.utf8.value)))
