use Rattle.std.proofs.Common.{◌∙◌}
use Rattle.dotenvy_editor.proofs.TrimmedTexts.{cut_before}
use Rattle.dotenvy_editor.proofs.spot.before_assigned.Goals as goal

pub overflow_sub-trimmed : goal.overflow_sub-trimmed
overflow_sub-trimmed c =
    (cut_before c.args.text.now c.trim_end-trimmed.result.now c.args.assigned.now c.requires.0 c.utf8.text
    c.trim_end-trimmed.utf8 c.utf8.assigned c.trim_end-trimmed.ensures.trim c.requires.1).within

pub split_at-requires : goal.split_at-requires
split_at-requires c =
    (cut_before c.args.text.now c.trim_end-trimmed.result.now c.args.assigned.now c.requires.0 c.utf8.text
    c.trim_end-trimmed.utf8 c.utf8.assigned c.trim_end-trimmed.ensures.trim c.requires.1).boundary

pub returns : goal.returns
returns c =
    λ front is.
    c.split_at.ensures.front
    ∙ (cut_before c.args.text.now c.trim_end-trimmed.result.now c.args.assigned.now front c.utf8.text
    c.trim_end-trimmed.utf8 c.utf8.assigned c.trim_end-trimmed.ensures.trim is).taken
