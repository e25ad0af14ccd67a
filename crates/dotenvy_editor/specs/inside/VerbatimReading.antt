-- A value with each name in it as it is written, read character by character.
use Rattle.std.specs.Prelude.{ℕ, ◌==◌, ◌&&◌, ◌||◌, List, [], ◌∷◌, ◌++◌, Option, Some, None}
use Rattle.std.specs.Prelude.{if◌then◌else◌}
use Rattle.dotenvy.specs.Dialect.{Dialect}
use Rattle.dotenvy.specs.Quoting.{Quoting}
use Rattle.dotenvy_format.specs.declared.text.Quoting.TheVariants.{Unquoted, DoubleQuoted}
use Rattle.dotenvy.specs.Characters.{is_space_or_tab, single_quote, double_quote}
use Rattle.dotenvy.specs.Characters.{backslash, left_brace}
use Rattle.dotenvy.specs.Value.{closes_after_name, escape_meaning}
use Rattle.dotenvy_editor.specs.declared.tail.Reading.{Reading}
use Rattle.dotenvy_editor.specs.declared.tail.Reading.TheVariants.{Base, Escaping, Single, Dollar}
use Rattle.dotenvy_editor.specs.declared.tail.Reading.TheVariants.{Name, Brace, Tail}
use Rattle.dotenvy_editor.specs.Tails.{after}

-- what a character gives with which a part begins: itself, or nothing
abbrev pub given_base : Quoting → ℕ → Option ℕ
given_base Unquoted c =
    if ((c == backslash || c == single_quote) || c == double_quote) || is_space_or_tab c then None
    else Some c
given_base DoubleQuoted c = if c == backslash || c == double_quote then None else Some c

-- what a character gives after a dollar or a bare name: itself, or nothing if it closes the quotes
abbrev pub given_name : Dialect → Quoting → ℕ → Option ℕ
given_name dialect quoting c =
    if closes_after_name dialect quoting && c == double_quote then None else Some c

-- what a character of a value gives
abbrev pub given : Dialect → Reading → ℕ → Option ℕ
given dialect (Base quoting) c = given_base quoting c
given dialect (Escaping quoting) c = Some (escape_meaning c)
given dialect Single c = if c == single_quote then None else Some c
given dialect (Dollar quoting) c =
    if c == left_brace then Some c else given_name dialect quoting c
given dialect (Name quoting) c = given_name dialect quoting c
given dialect (Brace quoting) c = Some c
given dialect Tail c = None

-- the text of what is given
abbrev pub given_text : Option ℕ → List ℕ
given_text None = []
given_text (Some c) = c ∷ []

-- what the characters give, from a reading on
abbrev pub verbatim : Dialect → Reading → List ℕ → List ℕ
verbatim dialect reading [] = []
verbatim dialect reading (c ∷ cs) =
    given_text (given dialect reading c) ++ verbatim dialect (after dialect reading c) cs
