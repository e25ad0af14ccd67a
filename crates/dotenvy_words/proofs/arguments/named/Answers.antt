use Rattle.std.proofs.Common.{ap, true, ◌∙◌}
use Rattle.clap.specs.Simple.{App, app_of_fields}
use Rattle.clap.specs.declared.builder.command.Command.{Command}
use Rattle.clap.specs.declared.builder.command.Command.TheOpen.{Command-F}
use Rattle.dotenvy_words.proofs.arguments.named.Goals as goal

pub returns : goal.returns
returns c =
    ap app_of_fields c.args_override_self.ensures
    ∙ ap (λ (f : Command-F Command). app_of_fields (record f { args_override_self = true })) c.no_binary_name.ensures
    ∙ ap (λ (f : Command-F Command). app_of_fields (record f { no_binary_name = true; args_override_self = true }))
    c.version.ensures
    ∙ ap (λ (a : App). record a {
      top = record a.top { no_binary_name = true; has_version = true; args_override_self = true };
    }) c.new.ensures.app
