use Rattle.std.proofs.Common.{refl}
use Rattle.std.specs.Str.{is_utf8, chars}
use Rattle.std.proofs.Math.Utf8.{encode}
use Rattle.dotenvy_findings.proofs.comments.worked_comments.Goals as goal

pub returns : goal.returns
unfolding is_utf8 chars encode
returns c = (refl, refl, refl, refl, refl, refl, refl, refl)
