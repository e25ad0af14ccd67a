use Rattle.std.proofs.Common.{take}
use Rattle.std.specs.Str.{IsValidUpTo}
use Rattle.dotenvy_lines.proofs.LinePieces.{front-valid, read-text}
use Rattle.dotenvy_lines.proofs.physical_line.text_front.Goals as goal

pub returns-in-Err : goal.returns-in-Err
returns-in-Err c =
    let bytes = c.args.bytes.now in
    let valid : IsValidUpTo bytes c.valid_up_to.result = rw c.valid_up_to.ensures c.in-Err.ensures.cases.1 in
    rw (
      c.unwrap_or.ensures,
      read-text _ c.from_utf8-in-Err.result _ (take c.valid_up_to.result bytes)
          c.from_utf8-in-Err.ensures.cases valid.front,
    ) (front-valid bytes c.valid_up_to.result valid)
