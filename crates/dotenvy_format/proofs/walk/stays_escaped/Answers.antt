use Rattle.std.proofs.Common.{◌≡◌, false, arith, refl}
use Rattle.std.specs.Prelude.{◌==◌}
use Rattle.std.proofs.lemmas.Bool.Decides.{nat_tests}
use Rattle.dotenvy_format.specs.declared.walk.LineMode.TheVariants.{InsideEscaping}
use Rattle.dotenvy_format.specs.Characters.{backslash}
use Rattle.dotenvy_format.proofs.walk.stays_escaped.Goals as goal

pub returns-in-Inside : goal.returns-in-Inside
returns-in-Inside c = λ other.
    let no : (backslash == c.in-Inside.quote) ≡ false = grind (arith, nat_tests, other) in
    rw c.in-Inside.is (InsideEscaping c.in-Inside.quote, rw no refl, refl)
