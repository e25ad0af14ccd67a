use Rattle.std.proofs.Common.{◌≡◌, ◌++◌, length}
use Rattle.std.specs.Prelude.{encode_utf8_all, string_bytes}
use Rattle.dotenvy_findings.proofs.reading.text_of.Given as goal

-- the text so far, and the characters that are left, make the whole
abbrev pub invariant-characters : goal.invariant-characters
invariant-characters g l = string_bytes l.text ++ encode_utf8_all l.rest ≡ encode_utf8_all l.characters

abbrev pub decreases-characters : goal.decreases-characters
decreases-characters g l = length l.rest
