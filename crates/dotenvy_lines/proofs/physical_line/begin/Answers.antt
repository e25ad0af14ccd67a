use Rattle.std.proofs.Common.{lit<, ◌∙◌, sym, length, refl, string_bytes}
use Rattle.std.specs.Str.{chars}
use Rattle.dotenvy_base.proofs.Basics.{ok-weaker, tested_empty, tested_some}
use Rattle.dotenvy_lines.proofs.WalkedPieces.{begins-comment, begins-other, stays-blank, visible_shown}
use Rattle.dotenvy_format.proofs.lines.LineTexts.{comment_at_once, comment_is, blank_is, shown_is}
use Rattle.dotenvy_lines.proofs.physical_line.begin.Goals as goal

pub returns-then-starts_with-clause-walks : goal.returns-then-starts_with-clause-walks
returns-then-starts_with-clause-walks g c =
    begins-comment c.args.mode _ _
    (comment_at_once c.args.piece.now _ c.utf8.piece (c.starts_with.ensures.byte (lit< tt) (lit< tt) (λ w o h. h))
    c.if-starts_with.true)

pub returns-then-begins_visibly-clause-walks : goal.returns-then-begins_visibly-clause-walks
returns-then-begins_visibly-clause-walks g c =
    let piece = c.args.piece.now in
    let byte = c.starts_with.ensures.byte (lit< tt) (lit< tt) (λ w o h. h) in
    let visible = sym c.begins_visibly.ensures ∙ c.if-begins_visibly.true in
    ok-weaker _ _ c.walk_on.result
    (λ p w.
    begins-other (chars piece) (chars (string_bytes c.walk_on.new.text)) p w
    (visible_shown piece c.utf8.piece visible (sym byte ∙ c.if-starts_with.false)))
    c.walk_on.ensures.walks

pub returns-then-is_empty-clause-walks : goal.returns-then-is_empty-clause-walks
returns-then-is_empty-clause-walks g c =
    let trimmed = c.trim_start-trimmed.result.now in
    let none = tested_empty trimmed (length trimmed) c.is_empty.result c.is_empty.ensures refl c.if-is_empty.true in
    rw c.still_blank.ensures (stays-blank _ _ c.in_ok-walk_on.field-0 c.in_ok-walk_on.ensures.walks
    (blank_is c.args.piece.now trimmed c.trim_start-trimmed.ensures.trim none))

pub returns-then-starts_with-2-clause-walks : goal.returns-then-starts_with-2-clause-walks
returns-then-starts_with-2-clause-walks g c =
    begins-comment c.args.mode _ _
    (sym (comment_is c.args.piece.now c.trim_start-trimmed.result.now c.starts_with-2.result
    c.trim_start-trimmed.ensures.trim
    (c.starts_with-2.ensures.byte (lit< tt) (lit< tt) (λ w o h. h))) ∙ c.if-starts_with-2.true)

pub returns-clause-walks : goal.returns-clause-walks
returns-clause-walks g c =
    let trimmed = c.trim_start-trimmed.result.now in
    let some = tested_some trimmed (length trimmed) c.is_empty.result c.is_empty.ensures refl c.if-is_empty.false in
    let other = sym (comment_is c.args.piece.now trimmed c.starts_with-2.result c.trim_start-trimmed.ensures.trim
    (c.starts_with-2.ensures.byte (lit< tt) (lit< tt) (λ w o h. h))) ∙ c.if-starts_with-2.false in
    ok-weaker _ _ c.walk_on-2.result
    (λ p w.
    begins-other (chars c.args.piece.now) (chars (string_bytes c.walk_on-2.new.text)) p w
    (other, λ none. shown_is c.args.piece.now trimmed c.trim_start-trimmed.ensures.trim some.1))
    c.walk_on-2.ensures.walks
