use Rattle.std.proofs.Common.{◌≡◌}
use Rattle.std.specs.Prelude.{◌||◌}
use Rattle.clap.specs.Words.{Text}
use Rattle.dotenvy_words.specs.Found.{texts}
use Rattle.dotenvy_checker.specs.Findings.{has_value}
use Rattle.dotenvy_checker.specs.Folders.{is_among}
use Rattle.dotenvy_checker.specs.Schema.{names_of}
use Rattle.dotenvy_checker.specs.inside.CheckedLines.{declared_of}
use Rattle.dotenvy_checker.proofs.schema.DeclaredNames.add.Given as goal

-- with what is left, all names are there
abbrev pub invariant-keys : goal.invariant-keys
invariant-keys g l = (name : Text) → (is_among (names_of l.self) name || is_among (texts l.name-iterator) name)
    ≡ has_value (is_among (names_of l.fn.self)) (declared_of l.declared) name
