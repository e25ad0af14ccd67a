use Rattle.std.proofs.Common.{◌≡◌, take}
use Rattle.std.specs.Prelude.{string_bytes}
use Rattle.dotenvy_reports.specs.Uris.{uri}
use Rattle.dotenvy_reports.proofs.uri.uri.Given as goal

-- the text is the reference to the bytes so far
abbrev pub invariant-bytes : goal.invariant-bytes
invariant-bytes g l = string_bytes l.text ≡ uri (take l.byte-index l.fn.name)
