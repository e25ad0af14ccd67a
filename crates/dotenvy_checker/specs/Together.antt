-- The names that a file declares, set in an environment.
use Rattle.std.specs.Prelude.{ℕ, ◌&&◌, ◌||◌, Bool, true, false, List, [], Option, Some, None}
use Rattle.std.specs.Prelude.{is_some}
use Rattle.std.specs.FinMap as fin
use Rattle.std.specs.Option.{option_or}
use Rattle.dotenvy_base.specs.Environment.{Texts, name_ok}
use Rattle.dotenvy_findings.specs.Readings.{Known}
use Rattle.dotenvy_checker.specs.Findings.{Declared}

-- the names that are declared
abbrev pub is_declared : Declared → Known
is_declared declared name = is_some (declared name)

-- those of the names that an environment can have
abbrev pub settable : Known → Known
settable names name = name_ok name && names name

-- the names, and others
abbrev pub with_names : Known → Known → Known
with_names names others name = names name || others name

-- the empty value, or none
abbrev pub empty_if : Bool → Option (List ℕ)
empty_if true = Some []
empty_if false = None

-- the value of a name, where each of these names that has none has the empty value
abbrev pub with_empty : Texts → Known → List ℕ → Option (List ℕ)
with_empty texts names name = option_or (fin.get texts name) (empty_if (names name))
