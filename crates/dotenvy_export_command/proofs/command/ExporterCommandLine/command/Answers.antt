use Rattle.std.proofs.Common.{ap₂, ◌∙◌}
use Rattle.std.proofs.lemmas.Result.{IfOk-weaker}
use Rattle.clap.specs.Words.{with_rule}
use Rattle.dotenvy_export_command.specs.Words.{exporter}
use Rattle.dotenvy_export_command.proofs.command.ExporterCommandLine.command.Goals as goal

pub returns : goal.returns
unfolding exporter
returns c =
    let next = c.in_ok-arg.ensures.shape c.flag.ensures.local ∙ ap₂ with_rule c.named.ensures c.flag.ensures.rule in
    let overrides = c.in_ok-arg-2.ensures.shape c.flag-2.ensures.local ∙ ap₂ with_rule next c.flag-2.ensures.rule in
    let ignores = c.in_ok-arg-3.ensures.shape c.flag-3.ensures.local ∙ ap₂ with_rule overrides c.flag-3.ensures.rule in
    let skips = c.in_ok-arg-4.ensures.shape c.flag-4.ensures.local ∙ ap₂ with_rule ignores c.flag-4.ensures.rule in
    let optional = c.in_ok-arg-5.ensures.shape c.many.ensures.local ∙ ap₂ with_rule skips c.many.ensures.rule in
    let target = c.in_ok-arg-6.ensures.shape c.target.ensures.local ∙ ap₂ with_rule optional c.target.ensures.rule in
    IfOk-weaker c.arg-7.result _ _
    (λ r h. h.shape c.files.ensures.local ∙ ap₂ with_rule target c.files.ensures.rule) c.arg-7.ensures
