use Rattle.dotenvy_exporter.proofs.TextBytes.{ends_byte}
use Rattle.dotenvy_exporter.proofs.texts.ends_in_return.Goals as goal

pub returns-in-Some : goal.returns-in-Some
returns-in-Some c =
    ends_byte c.args.text.now _ _ c.utf8.text c.as_bytes.ensures.value c.in-Some.ensures.value

pub returns-in-None : goal.returns-in-None
returns-in-None c =
    ends_byte c.args.text.now _ _ c.utf8.text c.as_bytes.ensures.value c.in-None.ensures.value
