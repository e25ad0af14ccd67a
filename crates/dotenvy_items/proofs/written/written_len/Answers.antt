use Rattle.std.proofs.Common.{ap, arith, length, length-append}
use Rattle.std.specs.Str.{chars}
use Rattle.std.proofs.lemmas.Str.{encodes-chars}
use Rattle.dotenvy_format.specs.Written.{needs_backslash}
use Rattle.dotenvy_format.proofs.bytes.ByteRuns.{characters_kept}
use Rattle.dotenvy_items.proofs.WrittenBytes.{pair_bytes, left_len, ascii_backslash}
use Rattle.dotenvy_items.proofs.written.written_len.Goals as goal

pub returns : goal.returns
returns c =
    let counted = rw c.as_bytes.ensures.value at c.special_count-backslashes.ensures in
    let characters = ap length (characters_kept needs_backslash ascii_backslash c.args.text.now c.utf8.text) in
    let pair = simp length-append at (ap length (pair_bytes c.args.key.now c.args.text.now c.utf8.key)) in
    let left = left_len (chars c.args.text.now) in
    let text = ap length (encodes-chars c.args.text.now c.utf8.text) in
    omega (arith, pair, left, text, counted, characters)
