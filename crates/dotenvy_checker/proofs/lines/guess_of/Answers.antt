use Rattle.std.proofs.Common.{◌≡◌, ◌∙◌, ◌-◌, [], ap, arith, lit<, refl, sym, take}
use Rattle.std.specs.Str.{chars}
use Rattle.dotenvy_format.specs.LogicalLine.{HasText}
use Rattle.dotenvy_format.specs.inside.Walk.{kept_before}
use Rattle.dotenvy_format.proofs.lines.LineTexts.{comment_is}
use Rattle.dotenvy_checker.proofs.Parts.{guessed_comment, guessed_walk}
use Rattle.dotenvy_checker.proofs.lines.guess_of.Goals as goal

pub returns-then-starts_with : goal.returns-then-starts_with
returns-then-starts_with c =
    guessed_comment (chars c.args.text.now)
    (sym (comment_is c.args.text.now c.trim_start.result.now c.starts_with.result
    c.trim_start.ensures.trim (c.starts_with.ensures.byte (lit< tt) (lit< tt) (λ w o h. h))) ∙ c.if-starts_with.true)

pub returns-then-is_inside : goal.returns-then-is_inside
returns-then-is_inside c =
    guessed_walk (chars c.args.text.now) (sym (comment_is c.args.text.now c.trim_start.result.now c.starts_with.result
    c.trim_start.ensures.trim (c.starts_with.ensures.byte (lit< tt) (lit< tt) (λ w o h. h))) ∙ c.if-starts_with.false)
    (rw c.in-Going.is at c.walk_text.ensures []) ∙ rw (← c.is_inside.ensures, c.if-is_inside.true) refl

pub returns-else-is_inside : goal.returns-else-is_inside
returns-else-is_inside c =
    guessed_walk (chars c.args.text.now) (sym (comment_is c.args.text.now c.trim_start.result.now c.starts_with.result
    c.trim_start.ensures.trim (c.starts_with.ensures.byte (lit< tt) (lit< tt) (λ w o h. h))) ∙ c.if-starts_with.false)
    (rw c.in-Going.is at c.walk_text.ensures []) ∙ rw (← c.is_inside.ensures, c.if-is_inside.false) refl

pub returns-in-EndedAt : goal.returns-in-EndedAt
returns-in-EndedAt c =
    let all : c.in-EndedAt.at ≡ c.in-EndedAt.at - 0 = omega arith in
    let (within, boundary, walks) = rw c.in-EndedAt.is at c.walk_text.ensures in
    guessed_walk (chars c.args.text.now) (sym (comment_is c.args.text.now c.trim_start.result.now c.starts_with.result
    c.trim_start.ensures.trim (c.starts_with.ensures.byte (lit< tt) (lit< tt) (λ w o h. h))) ∙ c.if-starts_with.false)
    (walks [])
    ∙ ap (λ n. HasText (kept_before c.in-EndedAt.end (chars (take n c.args.text.now)))) all
    ∙ rw (c.kept_before.ensures, c.range.ensures.value) refl
