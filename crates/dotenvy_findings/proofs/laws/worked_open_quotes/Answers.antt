use Rattle.std.proofs.Common.{refl}
use Rattle.std.specs.Str.{chars}
use Rattle.unicode.proofs.DerivedComputing.{ucd_derived}
use Rattle.unicode.proofs.CategoryComputing.{ucd_category}
use Rattle.std.proofs.Math.Utf8.{encode}
use Rattle.dotenvy_format.specs.Characters.{is_name_character}
use Rattle.dotenvy_findings.proofs.laws.worked_open_quotes.Goals as goal

pub returns : goal.returns
unfolding is_name_character ucd_derived ucd_category encode chars
returns c = (
  refl,
  refl,
  refl,
  refl,
  refl,
  refl,
  refl,
  refl,
  refl,
  refl,
  refl,
  refl,
)
