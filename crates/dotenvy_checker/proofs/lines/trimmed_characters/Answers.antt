use Rattle.dotenvy_format.proofs.statements.StatementParts.{chars-trim_end}
use Rattle.dotenvy_checker.proofs.lines.trimmed_characters.Goals as goal

pub returns : goal.returns
returns g c =
    rw (chars-trim_end c.args.text.now c.trim_end.result.now c.utf8.text c.trim_end.ensures.trim)
    at c.characters_of.ensures
