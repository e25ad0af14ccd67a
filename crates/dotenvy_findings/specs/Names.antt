-- What is told of the names that a value mentions.
use Rattle.std.specs.Prelude.{ℕ, Bool, ◌||◌, ◌&&◌, ◌==◌, List, [], ◌∷◌, length, Option, Some, None}
use Rattle.std.specs.Prelude.{if◌then◌else◌}
use Rattle.std.specs.Char.{is_whitespace}
use Rattle.std.specs.List.{list_any}
use Rattle.dotenvy_format.specs.declared.dialect.Dialect.TheVariants.{Next}
use Rattle.dotenvy_format.specs.Characters.{begins_with, is_name_character}
use Rattle.dotenvy_findings.specs.declared.kind.Kind.{Kind}
use Rattle.dotenvy_findings.specs.declared.kind.Kind.TheVariants as kind
use Rattle.dotenvy_findings.specs.declared.state.State.{State}
use Rattle.dotenvy_findings.specs.declared.state.State.TheVariants.{Bare, Dollar}
use Rattle.dotenvy_findings.specs.Marks.{bare_kind}

-- the text without letters, digits and `_` at its start
abbrev pub after_letters : List ℕ → List ℕ
after_letters [] = []
after_letters (c ∷ cs) = if is_name_character Next c then after_letters cs else c ∷ cs

-- `:`, `-`, `=` or `+`, with which a default begins in shells
abbrev pub begins_default : ℕ → Bool
begins_default c = c == 58 || c == 45 || c == 61 || c == 43

-- what is told of a text in braces by what follows the name in it: the forms of shells with a
-- default, and of names that have to be set
abbrev pub form_kind : List ℕ → Option Kind
form_kind [] = None
form_kind (c ∷ cs) =
    if c == 63 then Some kind.Required else
    if c == 58 && begins_with 63 cs then Some kind.Required else
    if begins_default c then Some kind.Default else None

-- the kind of a form of shells, or else that of a blank
abbrev pub form_or_blank : Option Kind → List ℕ → Option Kind
form_or_blank (Some k) name = Some k
form_or_blank None name = if list_any is_whitespace name then Some kind.BlankInBraces else None

-- what is told of a text in braces because of its writing
abbrev pub braced_kind : List ℕ → Option Kind
braced_kind [] = Some kind.EmptyBraces
braced_kind (c ∷ cs) = form_or_blank (form_kind (after_letters (c ∷ cs))) (c ∷ cs)

-- the text is empty
abbrev pub is_empty_text : List ℕ → Bool
is_empty_text text = length text == 0

-- what is told of a name because of its writing, in this state, by the character behind it that is
-- text
abbrev pub written_kind : State → List ℕ → Option ℕ → Option Kind
written_kind (Dollar quoting) name follows = bare_kind quoting (is_empty_text name) follows
written_kind (Bare quoting) name follows = bare_kind quoting (is_empty_text name) follows
written_kind state name follows = braced_kind name

-- what is told of a name without a value
abbrev pub unknown_kind : Bool → Bool → Kind
unknown_kind is_braced is_own =
    if is_own then kind.OwnName else
    if is_braced then kind.UnknownBracedName else kind.UnknownName
