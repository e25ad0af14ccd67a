use Rattle.std.proofs.lemmas.List.Sums.{prefix_len-le-length}
use Rattle.dotenvy_format.specs.inside.Slices.{is_of_kind}
use Rattle.dotenvy_format.proofs.bytes.ByteLines.{run_span}
use Rattle.dotenvy_format.proofs.text.split_run.Goals as goal

pub split_at-requires : goal.split_at-requires
split_at-requires c = rw c.kind_run.ensures (prefix_len-le-length (is_of_kind c.args.kind) c.args.bytes.now)

pub returns-in-Some : goal.returns-in-Some
returns-in-Some c = run_span c.kind_run.ensures c.split_at.ensures.front c.split_at.ensures.back
