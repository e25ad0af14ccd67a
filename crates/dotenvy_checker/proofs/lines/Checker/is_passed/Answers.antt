use Rattle.std.specs.Str.{chars}
use Rattle.dotenvy_checker.proofs.Guesses.{passed_open}
use Rattle.dotenvy_checker.proofs.lines.Checker.is_passed.Goals as goal

pub returns : goal.returns
returns g c =
    passed_open c.args.from c.args.number c.args.is_open _ (chars c.args.text.now)
    c.if-number-from.false c.if-not-is_open.false
    (rw (c.as_slice.ensures.value, c.in_ok-characters.ensures) at c.begins_declaration.ensures)
