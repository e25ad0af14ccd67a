use Rattle.std.proofs.Common.{[], refl, ◌∙◌}
use Rattle.std.specs.Str.{chars}
use Rattle.dotenvy_editor.proofs.OpenEnds.{alone_ends, inside_open, same_mode}
use Rattle.dotenvy_editor.proofs.notes.open_reason.Goals as goal

pub returns-then-is_inside : goal.returns-then-is_inside
returns-then-is_inside c =
    inside_open c.in-Going.mode (chars c.args.text.now) (rw c.in-Going.is at c.walk_text.ensures [])
    (rw (← c.is_inside.ensures, c.if-is_inside.true) refl)

pub returns-else-is_inside : goal.returns-else-is_inside
returns-else-is_inside c =
    let (mode, goes, out) = c.requires in
    let here = rw c.in-Going.is at c.walk_text.ensures [] in
    alone_ends c.in-Going.mode (chars c.args.text.now) here
    (λ e. out (same_mode mode c.in-Going.mode (chars c.args.text.now) goes here ∙ e))
    (rw (← c.is_inside.ensures, c.if-is_inside.false) refl)

pub returns-in-EndedAt : goal.returns-in-EndedAt
returns-in-EndedAt c =
    let (mode, goes, out) = c.requires in
    let ends = (rw c.in-EndedAt.is at c.walk_text.ensures).2 [] in
    absurd (cc)
