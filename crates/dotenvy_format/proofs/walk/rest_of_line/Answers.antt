use Rattle.std.proofs.Common.{refl, drop}
use Rattle.dotenvy_format.specs.Characters.{line_feed}
use Rattle.dotenvy_format.proofs.bytes.ByteLines.{first_is}
use Rattle.dotenvy_format.proofs.walk.rest_of_line.Goals as goal

pub returns-in-Some-eq10 : goal.returns-in-Some-eq10
returns-in-Some-eq10 c =
    let found = c.in-Some-eq10 in record {
      pass = refl;
      later = drop 1 c.args.end.now;
      begins = first_is c.args.end.now found.field-0.now line_feed found.ensures.value found.field-0-test;
    }
