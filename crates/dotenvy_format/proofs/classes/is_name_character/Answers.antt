use Rattle.std.proofs.Common.{rules, ◌<◌}
use Rattle.dotenvy_format.proofs.bytes.NameCharacters.{ascii_names}
use Rattle.dotenvy_format.proofs.classes.is_name_character.Goals as goal

pub returns-then-is_ascii : goal.returns-then-is_ascii
returns-then-is_ascii c =
    let small : c.args.character < 128 = search rules in
    rw c.is_name_byte.ensures (ascii_names c.args.dialect c.args.character small)
