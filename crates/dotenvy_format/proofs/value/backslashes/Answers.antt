use Rattle.std.proofs.Common.{◌≡◌, ◌+◌, ◌-◌, ◌*◌, ◌/◌, ◌%◌, arith}
use Rattle.std.specs.Prelude.{◌==◌}
use Rattle.std.proofs.lemmas.List.Sums.{prefix_len-le-length}
use Rattle.dotenvy_format.specs.Characters.{backslash}
use Rattle.dotenvy_format.proofs.bytes.AsciiRows.{row_boundary}
use Rattle.dotenvy_format.proofs.values.BackslashRows.{row_with_text, gives_backslashes}
use Rattle.dotenvy_format.proofs.value.backslashes.Goals as goal

pub overflow_mul-pairs : goal.overflow_mul-pairs
overflow_mul-pairs c =
    omega (arith, prefix_len-le-length (λ b. b == backslash) c.args.left.now, c.requires.1)

pub split_at-requires : goal.split_at-requires
split_at-requires c = row_boundary backslash c.args.left.now _ (omega arith) c.utf8.left (omega (arith, c.requires))

pub split_at-requires-2 : goal.split_at-requires-2
split_at-requires-2 c = row_boundary backslash c.args.left.now _ (omega arith) c.utf8.left (omega (arith, c.requires))

pub split_at-requires-3 : goal.split_at-requires-3
split_at-requires-3 c =
    let pairs = c.args.more / 2 + c.args.more % 2 in
    let back : 2 * pairs - 1 ≡ pairs - 1 + (pairs - 1) + 1 = omega (arith, c.requires.0) in
    let parts = c.split_while.ensures in
    (row_with_text c.args.left.now (pairs - 1) _ (omega (arith, c.requires)) c.split_at.ensures.back
    (rw back at c.split_at-2.ensures.back) parts.bytes parts.texts.1).0

pub returns : goal.returns
returns c =
    let pairs = c.args.more / 2 + c.args.more % 2 in
    let back : 2 * pairs - 1 ≡ pairs - 1 + (pairs - 1) + 1 = omega (arith, c.requires.0) in
    let parts = c.split_while.ensures in
    let behind = rw back at c.split_at-2.ensures.back in
    let meant = row_with_text c.args.left.now (pairs - 1) _ (omega (arith, c.requires)) c.split_at.ensures.back behind
    parts.bytes parts.texts.1 in
    λ dialect.
    gives_backslashes c.args.left.now (pairs - 1) c.utf8.left (omega (arith, c.requires)) parts.texts.0 parts.texts.1
    (rw behind at parts.span) (rw meant.1 at c.split_at-3.ensures.front)
