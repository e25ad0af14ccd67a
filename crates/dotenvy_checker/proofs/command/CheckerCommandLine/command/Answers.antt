use Rattle.std.proofs.Common.{ap₂, ◌∙◌}
use Rattle.std.proofs.lemmas.Result.{IfOk-weaker}
use Rattle.clap.specs.Words.{with_rule}
use Rattle.dotenvy_checker.specs.Words.{checker}
use Rattle.dotenvy_checker.proofs.command.CheckerCommandLine.command.Goals as goal

pub returns : goal.returns
unfolding checker
returns c =
    let next =
    c.in_ok-arg.ensures.shape c.flag.ensures.local ∙ ap₂ with_rule c.named.ensures c.flag.ensures.rule in
    let strict = c.in_ok-arg-2.ensures.shape c.flag-2.ensures.local ∙ ap₂ with_rule next c.flag-2.ensures.rule in
    let quiet = c.in_ok-arg-3.ensures.shape c.quiet.ensures.local ∙ ap₂ with_rule strict c.quiet.ensures.rule in
    let text = c.in_ok-arg-4.ensures.shape c.flag-3.ensures.local ∙ ap₂ with_rule quiet c.flag-3.ensures.rule in
    let together = c.in_ok-arg-5.ensures.shape c.flag-4.ensures.local ∙ ap₂ with_rule text c.flag-4.ensures.rule in
    let ignores = c.in_ok-arg-6.ensures.shape c.flag-5.ensures.local ∙ ap₂ with_rule together c.flag-5.ensures.rule in
    let allow = c.in_ok-arg-7.ensures.shape c.many.ensures.local ∙ ap₂ with_rule ignores c.many.ensures.rule in
    let deny = c.in_ok-arg-8.ensures.shape c.many-2.ensures.local ∙ ap₂ with_rule allow c.many-2.ensures.rule in
    let known = c.in_ok-arg-9.ensures.shape c.many-3.ensures.local ∙ ap₂ with_rule deny c.many-3.ensures.rule in
    let exclude = c.in_ok-arg-10.ensures.shape c.many-4.ensures.local ∙ ap₂ with_rule known c.many-4.ensures.rule in
    let schema = c.in_ok-arg-11.ensures.shape c.one.ensures.local ∙ ap₂ with_rule exclude c.one.ensures.rule in
    let format = c.in_ok-arg-12.ensures.shape c.format.ensures.local ∙ ap₂ with_rule schema c.format.ensures.rule in
    IfOk-weaker c.arg-13.result _ _
    (λ r h. h.shape c.files.ensures.local ∙ ap₂ with_rule format c.files.ensures.rule) c.arg-13.ensures
