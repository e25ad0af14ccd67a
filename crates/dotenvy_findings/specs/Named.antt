-- Kinds by their names. A name is its bytes.
use Rattle.std.specs.Prelude.{ℕ, ◌≡◌, List, [], ◌∷◌, Option, Some}
use Rattle.std.specs.List.{find}
use Rattle.std.specs.Str.{bytes_eq}
use Rattle.dotenvy_findings.specs.declared.kind.Kind.{Kind}
use Rattle.dotenvy_findings.specs.declared.kind.Kind.TheVariants as kind
use Rattle.dotenvy_findings.specs.Kinds.{kind_name}

-- the kinds, in the order of their numbers
abbrev pub kinds : List Kind
kinds =
    kind.OpenDoubleQuote ∷ kind.OpenSingleQuote ∷ kind.OpenApostrophe ∷ kind.OpenQuoteInComment ∷
    kind.BlankAtEnd ∷ kind.BackslashAtEnd ∷ kind.SpaceInValue ∷ kind.SeveralOnLine ∷
    kind.Semicolon ∷ kind.TextAfterQuote ∷ kind.SlashComment ∷ kind.UnquotedKey ∷
    kind.CommandWithSpace ∷ kind.Array ∷ kind.TypographicQuotes ∷ kind.BareNameInQuotes ∷
    kind.DollarBeforeQuote ∷ kind.OpenBrace ∷ kind.BackslashInPlainValue ∷
    kind.CarriageReturnEscape ∷ kind.TabEscape ∷ kind.UnknownEscape ∷ kind.LineContinuation ∷
    kind.QuoteAfterName ∷ kind.NoEqualsSign ∷ kind.ExportWithoutValue ∷ kind.ExportOption ∷
    kind.Colon ∷ kind.OtherWord ∷ kind.Section ∷ kind.OtherComment ∷ kind.Merge ∷
    kind.NameCharacter ∷ kind.NameStart ∷ kind.NoName ∷ kind.NotUtf8 ∷ kind.Utf16 ∷
    kind.Latin1 ∷ kind.OtherFault ∷
    kind.UnknownName ∷ kind.UnknownBracedName ∷ kind.LaterName ∷ kind.OwnName ∷ kind.Default ∷
    kind.Required ∷ kind.EmptyBraces ∷ kind.BlankInBraces ∷ kind.LoneDollar ∷ kind.Command ∷
    kind.NameBeforeUnderscore ∷ kind.TextAfterName ∷ kind.DroppedBackslash ∷ kind.DeclaredTwice ∷
    kind.Nul ∷ kind.QuoteClosedLater ∷ kind.QuoteInComment ∷ kind.HashAfterEquals ∷
    kind.DroppedQuotes ∷ kind.HashAfterQuote ∷ kind.SemicolonAfterQuote ∷
    kind.LoneCarriageReturn ∷ kind.TypographicText ∷ kind.OddSpace ∷ kind.Tilde ∷
    kind.HereDocument ∷ kind.KeyLine ∷ []

-- the kind that has this name
abbrev pub kind_named : List ℕ → Option Kind
kind_named name = find (λ each. bytes_eq (kind_name each) name) kinds

-- each kind is the one that has its name, and no other name has a kind
abbrev pub KindsHaveNames : Type 0
KindsHaveNames =
    ((each : Kind) → kind_named (kind_name each) ≡ Some each)
    × ((name : List ℕ) (found : Kind) → kind_named name ≡ Some found → kind_name found ≡ name)
