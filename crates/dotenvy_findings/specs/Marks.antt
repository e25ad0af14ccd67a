-- What is told of single characters and names of a value.
use Rattle.dotenvy_findings.specs.Characters.{is_letter}
use Rattle.std.specs.Prelude.{ℕ, Bool, false, ◌&&◌, ◌||◌, ◌==◌, List, Option, Some, None}
use Rattle.std.specs.Prelude.{if◌then◌else◌}
use Rattle.dotenvy_format.specs.Characters.{backslash, carriage_return, double_quote, hash}
use Rattle.dotenvy_format.specs.Characters.{is_quote, is_space_or_tab, line_feed, underscore}
use Rattle.dotenvy_format.specs.declared.text.Quoting.{Quoting}
use Rattle.dotenvy_format.specs.declared.text.Quoting.TheVariants.{Unquoted, DoubleQuoted}
use Rattle.dotenvy_findings.specs.Characters.{first_of, is_odd_space}
use Rattle.dotenvy_findings.specs.Characters.{is_typographic}
use Rattle.dotenvy_findings.specs.declared.kind.Kind.{Kind}
use Rattle.dotenvy_findings.specs.declared.kind.Kind.TheVariants.{Command, DroppedQuotes}
use Rattle.dotenvy_findings.specs.declared.kind.Kind.TheVariants.{HashAfterQuote}
use Rattle.dotenvy_findings.specs.declared.kind.Kind.TheVariants.{HereDocument, LoneCarriageReturn}
use Rattle.dotenvy_findings.specs.declared.kind.Kind.TheVariants.{LoneDollar}
use Rattle.dotenvy_findings.specs.declared.kind.Kind.TheVariants.{NameBeforeUnderscore, Nul}
use Rattle.dotenvy_findings.specs.declared.kind.Kind.TheVariants.{OddSpace}
use Rattle.dotenvy_findings.specs.declared.kind.Kind.TheVariants.{QuoteInComment}
use Rattle.dotenvy_findings.specs.declared.kind.Kind.TheVariants.{SemicolonAfterQuote}
use Rattle.dotenvy_findings.specs.declared.kind.Kind.TheVariants.{TextAfterName, Tilde}
use Rattle.dotenvy_findings.specs.declared.kind.Kind.TheVariants.{TypographicText}
use Rattle.dotenvy_findings.specs.declared.state.Before.{Before}
use Rattle.dotenvy_findings.specs.declared.state.Before.TheVariants.{Quote, Start, Text}
use Rattle.dotenvy_findings.specs.declared.state.State.{State}
use Rattle.dotenvy_findings.specs.declared.state.State.TheVariants.{Bare, Braced, Comment}
use Rattle.dotenvy_findings.specs.declared.state.State.TheVariants.{CommentQuote, Dollar}
use Rattle.dotenvy_findings.specs.declared.state.State.TheVariants.{Double, Escaped, Failed}
use Rattle.dotenvy_findings.specs.declared.state.State.TheVariants.{Outside, Single, Tail}

-- the character is the apostrophe of a word, by the character before it
abbrev pub is_apostrophe : Option ℕ → ℕ → Bool
is_apostrophe before c = c == 0x2019 && is_letter before

-- what is told of a character that is easily mistaken for another, by the character before it
abbrev pub look_alike : Option ℕ → ℕ → Option Kind
look_alike before c =
    if is_apostrophe before c then None else
    if is_typographic c then Some TypographicText else
    if is_odd_space c then Some OddSpace else None

-- what is told of the first character of a value, which this one follows: `~` alone, or before `/`,
-- a space or a tab, and `<<`
abbrev pub start_kind : ℕ → Option ℕ → Option Kind
start_kind c None = if c == 126 then Some Tilde else None
start_kind c (Some d) =
    if c == 126 && (d == 47 || is_space_or_tab d) then Some Tilde else
    if c == 60 && d == 60 then Some HereDocument else None

-- the first kind, if there is one, else the second
abbrev pub or_kind : Option Kind → Option Kind → Option Kind
or_kind (Some kind) other = Some kind
or_kind None other = other

-- what is told of a character outside quotes that follows no carriage return
abbrev pub plain_kind : Before → Option ℕ → ℕ → Option ℕ → Option Kind
plain_kind Start before c follows = or_kind (start_kind c follows) (look_alike before c)
plain_kind Text before c follows = if is_quote c then Some DroppedQuotes else look_alike before c
plain_kind Quote before c follows =
    if c == hash then Some HashAfterQuote else
    if c == 59 then Some SemicolonAfterQuote else look_alike before c

-- the character before was a carriage return
abbrev pub is_after_return : Option ℕ → Bool
is_after_return None = false
is_after_return (Some d) = d == carriage_return

-- what is told of a character outside quotes, behind this one and before this one
abbrev pub outside_kind : Before → Option ℕ → ℕ → Option ℕ → Option Kind
outside_kind what before c follows =
    if is_after_return before then Some LoneCarriageReturn else plain_kind what before c follows

-- what is told of a character of a value that is no comment: that it is a NUL, or else this
abbrev pub unless_nul : ℕ → Option Kind → Option Kind
unless_nul c other = if c == 0 then Some Nul else other

-- what is told of a character, by the state and the character before it, and the text behind it
abbrev pub character_kind : State → Option ℕ → ℕ → List ℕ → Option Kind
character_kind (Outside what) before c rest =
    unless_nul c (outside_kind what before c (first_of rest))
character_kind (Escaped quoting) before c rest = unless_nul c None
character_kind Single before c rest = unless_nul c None
character_kind Double before c rest = unless_nul c None
character_kind (Dollar quoting) before c rest = unless_nul c None
character_kind (Bare quoting) before c rest = unless_nul c None
character_kind (Braced quoting) before c rest = unless_nul c None
character_kind Tail before c rest = unless_nul c None
character_kind Comment before c rest = None
character_kind CommentQuote before c rest = if c == line_feed then Some QuoteInComment else None
character_kind (Failed kind) before c rest = unless_nul c None

-- this character, which is text behind a bare name, is easily taken for what it is elsewhere
abbrev pub is_taken : Quoting → ℕ → Bool
is_taken Unquoted c = is_quote c || c == backslash || is_space_or_tab c
is_taken DoubleQuoted c = c == double_quote || c == backslash

-- what is told of a bare name because of its writing, by the character behind it that is text
abbrev pub bare_kind : Quoting → Bool → Option ℕ → Option Kind
bare_kind quoting is_empty None = if is_empty then Some LoneDollar else None
bare_kind quoting is_empty (Some c) =
    if c == underscore then Some NameBeforeUnderscore else
    if is_empty && c == 40 then Some Command else
    if is_empty then Some LoneDollar else
    if is_taken quoting c then Some TextAfterName else None
