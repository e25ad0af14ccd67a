use Rattle.std.proofs.Common.{arith}
use Rattle.dotenvy_format.proofs.bytes.AsciiRows.{row_boundary}
use Rattle.dotenvy_format.proofs.lines.BlankPairs.{blank_small, pairs_pass}
use Rattle.dotenvy_format.proofs.walk.pass_pairs.Goals as goal

pub split_at-requires : goal.split_at-requires
split_at-requires c =
    row_boundary c.args.blank c.args.text.now _ (blank_small c.args.blank c.requires) c.utf8.text
    (omega (arith, c.row_len-row.ensures))

pub returns : goal.returns
returns c =
    pairs_pass c.args.blank c.row_len-row.result c.requires c.utf8.text c.row_len-row.ensures c.split_at.ensures.back
