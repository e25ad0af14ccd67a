-- Where a value ends before blanks and a comment, read character by character.
use Rattle.std.specs.Prelude.{ℕ, Bool, true, false, ◌==◌, List, [], ◌∷◌, if◌then◌else◌}
use Rattle.dotenvy.specs.Dialect.{Dialect}
use Rattle.dotenvy.specs.Quoting.{Quoting}
use Rattle.dotenvy_format.specs.declared.text.Quoting.TheVariants.{Unquoted, DoubleQuoted}
use Rattle.dotenvy.specs.Characters.{is_name_character, is_space_or_tab, single_quote, double_quote}
use Rattle.dotenvy.specs.Characters.{backslash, dollar, left_brace, right_brace}
use Rattle.dotenvy.specs.Value.{is_left_by_name}
use Rattle.dotenvy_editor.specs.declared.tail.Reading.{Reading}
use Rattle.dotenvy_editor.specs.declared.tail.Reading.TheVariants.{Base, Escaping, Single, Dollar}
use Rattle.dotenvy_editor.specs.declared.tail.Reading.TheVariants.{Name, Brace, Tail}

-- what follows a character with which a part begins
abbrev pub after_base : Quoting → ℕ → Reading
after_base Unquoted c =
    if c == backslash then Escaping Unquoted else
    if c == single_quote then Single else
    if c == double_quote then Base DoubleQuoted else
    if c == dollar then Dollar Unquoted else
    if is_space_or_tab c then Tail else Base Unquoted
after_base DoubleQuoted c =
    if c == backslash then Escaping DoubleQuoted else
    if c == double_quote then Base Unquoted else
    if c == dollar then Dollar DoubleQuoted else Base DoubleQuoted

-- what follows a character after a dollar or a bare name
abbrev pub after_name : Dialect → Quoting → ℕ → Reading
after_name dialect quoting c =
    if is_name_character dialect c then Name quoting else
    if is_left_by_name dialect quoting c then after_base quoting c else Base quoting

-- what follows a character of a value
abbrev pub after : Dialect → Reading → ℕ → Reading
after dialect (Base quoting) c = after_base quoting c
after dialect (Escaping quoting) c = Base quoting
after dialect Single c = if c == single_quote then Base Unquoted else Single
after dialect (Dollar quoting) c =
    if c == left_brace then Brace quoting else after_name dialect quoting c
after dialect (Name quoting) c = after_name dialect quoting c
after dialect (Brace quoting) c = if c == right_brace then Base quoting else Brace quoting
after dialect Tail c = Tail

-- the blanks and the comment at the end of a value are read
abbrev pub is_tail : Reading → Bool
is_tail (Base quoting) = false
is_tail (Escaping quoting) = false
is_tail Single = false
is_tail (Dollar quoting) = false
is_tail (Name quoting) = false
is_tail (Brace quoting) = false
is_tail Tail = true

-- the characters up to the blank that ends the value
abbrev pub meant_part : Dialect → Reading → List ℕ → List ℕ
meant_part dialect reading [] = []
meant_part dialect reading (c ∷ cs) =
    if is_tail (after dialect reading c) then []
    else c ∷ meant_part dialect (after dialect reading c) cs
