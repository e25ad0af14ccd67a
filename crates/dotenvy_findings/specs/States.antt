-- The reading of a value, character by character.
use Rattle.std.specs.Prelude.{ℕ, Bool, false, not, ◌&&◌, ◌==◌, if◌then◌else◌}
use Rattle.dotenvy_format.specs.declared.dialect.Dialect.{Dialect}
use Rattle.dotenvy_format.specs.declared.text.Quoting.{Quoting}
use Rattle.dotenvy_format.specs.declared.text.Quoting.TheVariants.{Unquoted, DoubleQuoted}
use Rattle.dotenvy_format.specs.Characters.{backslash, double_quote, dollar, hash}
use Rattle.dotenvy_format.specs.Characters.{is_name_character}
use Rattle.dotenvy_format.specs.Characters.{line_feed}
use Rattle.dotenvy_format.specs.Characters.{is_quote, is_space_or_tab, left_brace, right_brace}
use Rattle.dotenvy_format.specs.Characters.{single_quote}
use Rattle.dotenvy_format.specs.Value.{is_escape, is_left_by_name}
use Rattle.dotenvy_findings.specs.declared.kind.Kind.{Kind}
use Rattle.dotenvy_findings.specs.declared.kind.Kind.TheVariants.{BackslashInPlainValue}
use Rattle.dotenvy_findings.specs.declared.kind.Kind.TheVariants.{CarriageReturnEscape}
use Rattle.dotenvy_findings.specs.declared.kind.Kind.TheVariants.{LineContinuation, SpaceInValue}
use Rattle.dotenvy_findings.specs.declared.kind.Kind.TheVariants.{TabEscape, UnknownEscape}
use Rattle.dotenvy_findings.specs.declared.state.Before.TheVariants.{Quote, Text}
use Rattle.dotenvy_findings.specs.declared.state.State.{State}
use Rattle.dotenvy_findings.specs.declared.state.State.TheVariants.{Bare, Braced, Comment}
use Rattle.dotenvy_findings.specs.declared.state.State.TheVariants.{CommentQuote, Dollar}
use Rattle.dotenvy_findings.specs.declared.state.State.TheVariants.{Double, Escaped, Failed}
use Rattle.dotenvy_findings.specs.declared.state.State.TheVariants.{Outside, Single, Tail}

-- the state behind a part in these quotes
abbrev pub inside : Quoting → State
inside Unquoted = Outside Text
inside DoubleQuoted = Double

-- the state behind this character outside quotes
abbrev pub after_outside : ℕ → State
after_outside c =
    if c == backslash then Escaped Unquoted else
    if c == single_quote then Single else
    if c == double_quote then Double else
    if c == dollar then Dollar Unquoted else
    if is_space_or_tab c then Tail else Outside Text

-- the state behind this character in double quotes
abbrev pub after_double : ℕ → State
after_double c =
    if c == backslash then Escaped DoubleQuoted else
    if c == double_quote then Outside Quote else
    if c == dollar then Dollar DoubleQuoted else Double

-- the state behind this character, which is no part of what came before it
abbrev pub after_part : Quoting → ℕ → State
after_part Unquoted c = after_outside c
after_part DoubleQuoted c = after_double c

-- the fault of a backslash before this character, which is no escape
abbrev pub escape_kind : Quoting → ℕ → Kind
escape_kind Unquoted c = if c == line_feed then LineContinuation else BackslashInPlainValue
escape_kind DoubleQuoted c =
    if c == line_feed then LineContinuation else
    if c == 114 then CarriageReturnEscape else
    if c == 116 then TabEscape else UnknownEscape

-- the state behind a backslash and this character
abbrev pub after_escape : Quoting → ℕ → State
after_escape quoting c = if is_escape c then inside quoting else Failed (escape_kind quoting c)

-- the state behind a bare name and this character, which is no part of it
abbrev pub after_name : Dialect → Quoting → ℕ → State
after_name dialect quoting c =
    if is_left_by_name dialect quoting c then after_part quoting c else inside quoting

-- the state behind this character
abbrev pub next_state : Dialect → State → ℕ → State
next_state dialect (Outside before) c = after_outside c
next_state dialect (Escaped quoting) c = after_escape quoting c
next_state dialect Single c = if c == single_quote then Outside Quote else Single
next_state dialect Double c = after_double c
next_state dialect (Dollar quoting) c =
    if c == left_brace then Braced quoting else
    if is_name_character dialect c then Bare quoting else after_name dialect quoting c
next_state dialect (Bare quoting) c =
    if is_name_character dialect c then Bare quoting else after_name dialect quoting c
next_state dialect (Braced quoting) c = if c == right_brace then inside quoting else Braced quoting
next_state dialect Tail c =
    if is_space_or_tab c then Tail else
    if c == hash then Comment else Failed SpaceInValue
next_state dialect Comment c = if is_quote c then CommentQuote else Comment
next_state dialect CommentQuote c = CommentQuote
next_state dialect (Failed kind) c = Failed kind

-- a name ends before or with this character
abbrev pub ends_name : Dialect → State → ℕ → Bool
ends_name dialect (Outside before) c = false
ends_name dialect (Escaped quoting) c = false
ends_name dialect Single c = false
ends_name dialect Double c = false
ends_name dialect (Dollar quoting) c = not (c == left_brace) && not (is_name_character dialect c)
ends_name dialect (Bare quoting) c = not (is_name_character dialect c)
ends_name dialect (Braced quoting) c = c == right_brace
ends_name dialect Tail c = false
ends_name dialect Comment c = false
ends_name dialect CommentQuote c = false
ends_name dialect (Failed kind) c = false
