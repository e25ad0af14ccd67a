use Rattle.std.proofs.Common.{length}
use denote.Text.{Utf8}
use denote.Shadow.{shadow}
use Rattle.std.specs.Str.{chars}
use Rattle.dotenvy_editor.proofs.TailPasses.{IsReadSo}
use Rattle.dotenvy_editor.proofs.tail.meant_len.Given as goal

-- the value is read so far
abbrev pub invariant-characters : goal.invariant-characters
invariant-characters l =
    shadow (Utf8 l.rest) × IsReadSo l.dialect (chars l.value) l.reading (chars l.rest)

abbrev pub decreases-characters : goal.decreases-characters
decreases-characters l = length l.rest
