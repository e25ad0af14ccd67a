use Rattle.std.proofs.Common.{◌∙◌}
use Rattle.dotenvy_exporter.proofs.TextBytes.{has_byte}
use Rattle.dotenvy_exporter.proofs.texts.has.Goals as goal

pub returns : goal.returns
returns c =
    c.is_some.ensures
    ∙ has_byte c.args.wanted c.args.text.now _ _ c.requires c.utf8.text c.as_bytes.ensures.value c.memchr.ensures
