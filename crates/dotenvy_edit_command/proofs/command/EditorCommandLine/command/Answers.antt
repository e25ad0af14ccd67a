use Rattle.std.proofs.Common.{ap₂, ◌∙◌}
use Rattle.std.proofs.lemmas.Result.{IfOk-weaker}
use Rattle.clap.specs.Words.{with_rule}
use Rattle.dotenvy_edit_command.specs.Words.{editor}
use Rattle.dotenvy_edit_command.proofs.command.EditorCommandLine.command.Goals as goal

pub returns : goal.returns
unfolding editor
returns c =
    let next = c.in_ok-arg.ensures.shape c.flag.ensures.local ∙ ap₂ with_rule c.named.ensures c.flag.ensures.rule in
    let portable = c.in_ok-arg-2.ensures.shape c.flag-2.ensures.local ∙ ap₂ with_rule next c.flag-2.ensures.rule in
    let creates = c.in_ok-arg-3.ensures.shape c.flag-3.ensures.local ∙ ap₂ with_rule portable c.flag-3.ensures.rule in
    let dry = c.in_ok-arg-4.ensures.shape c.flag-4.ensures.local ∙ ap₂ with_rule creates c.flag-4.ensures.rule in
    let exact = c.in_ok-arg-5.ensures.shape c.flag-5.ensures.local ∙ ap₂ with_rule dry c.flag-5.ensures.rule in
    let quiet = c.in_ok-arg-6.ensures.shape c.quiet.ensures.local ∙ ap₂ with_rule exact c.quiet.ensures.rule in
    let command = c.in_ok-arg-7.ensures.shape c.command.ensures.local ∙ ap₂ with_rule quiet c.command.ensures.rule in
    IfOk-weaker c.arg-8.result _ _
    (λ r h. h.shape c.files.ensures.local ∙ ap₂ with_rule command c.files.ensures.rule) c.arg-8.ensures
