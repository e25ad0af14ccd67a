-- What a caller asks of a call by its options.
use Rattle.std.specs.Prelude.{ℕ, Bool, not, ◌==◌, bit_and, bit_or, List, if◌then◌else◌}
use Rattle.dotenvy.specs.Dialect.{Dialect}
use Rattle.dotenvy.specs.Dialect.TheVariants.{V15, Next}
use Rattle.dotenvy.specs.Loads.{load_result, override_result}
use Rattle.dotenvy.specs.LoadsRest.{Rule}
use Rattle.dotenvy.specs.Marks.{without_mark}
use Rattle.dotenvy_editor.specs.declared.writing.How.{How}

-- no bit is set but those of `known`
abbrev pub are_among : ℕ → ℕ → Bool
are_among options known = bit_or options known == known

-- this option is set
abbrev pub has_option : ℕ → ℕ → Bool
has_option options option = not (bit_and options option == 0)

-- the dialect that is asked for: option 2 asks for the second one
abbrev pub dialect_of : ℕ → Dialect
dialect_of options = if has_option options 2 then Next else V15

-- the rule of loads that is asked for: option 1 asks for that of `load_override`
abbrev pub rule_asked : ℕ → Rule
rule_asked options = if has_option options 1 then override_result else load_result

-- the bytes whose items are asked for: option 4 asks to drop a byte order mark
abbrev pub bytes_asked : ℕ → List ℕ → List ℕ
bytes_asked options file = if has_option options 4 then without_mark file else file

-- how a key is to be set: option 8 asks for a form that other readers read alike
abbrev pub how_asked : ℕ → How
how_asked options = record { dialect = dialect_of options; is_portable = has_option options 8 }
