use Rattle.std.proofs.Common.{arith}
use Rattle.dotenvy_format.proofs.lines.LineEnds.{escaped_part, hash_part, other_is_quote, quoted_part}
use Rattle.dotenvy_format.proofs.walk.after_part.Goals as goal

pub returns-in-35 : goal.returns-in-35
returns-in-35 c =
    hash_part c.after_hash.result c.args.blanks c.args.first c.args.behind.now c.in-35.is c.requires.1
    c.after_hash.ensures

pub returns-in-92 : goal.returns-in-92
returns-in-92 c =
    escaped_part c.after_escaped.result c.args.blanks c.args.first c.args.behind.now c.in-92.is
    c.after_escaped.ensures

pub returns-in_default : goal.returns-in_default
returns-in_default c =
    let is = other_is_quote c.args.blanks c.args.first c.requires.0 c.requires.1 (omega arith) (omega arith) in
    quoted_part c.after_quotes.result c.args.blanks c.args.first c.args.behind.now is c.after_quotes.ensures
