use Rattle.std.proofs.Common.{◌≡◌, Bool, true, List, [], ◌∷◌, Some, arith, refl, rules}
use Rattle.std.specs.List.{find}
use Rattle.std.specs.Str.{bytes_eq}
use Rattle.std.proofs.lemmas.Slice.Eq.{bytes_eq-Decides}
use Rattle.dotenvy_findings.specs.declared.kind.Kind.{Kind}
use Rattle.dotenvy_findings.specs.declared.kind.Kind.TheVariants as kind
use Rattle.dotenvy_findings.specs.Kinds.{kind_name}
use Rattle.dotenvy_findings.specs.Named.{kind_named, kinds}
use Rattle.dotenvy_findings.proofs.named.kinds_have_names.Goals as goal

-- what is found passes the test
found_passes : {X : Type 0} (p : X → Bool) (xs : List X) (x : X) → find p xs ≡ Some x → p x ≡ true
found_passes p [] x e = absurd (search rules)
found_passes p (y ∷ ys) x e = grind (arith, e, found_passes p ys x)

-- each kind is found by its name
found_by_name : (each : Kind) → kind_named (kind_name each) ≡ Some each
found_by_name kind.OpenDoubleQuote = refl
found_by_name kind.OpenSingleQuote = refl
found_by_name kind.OpenApostrophe = refl
found_by_name kind.OpenQuoteInComment = refl
found_by_name kind.BlankAtEnd = refl
found_by_name kind.BackslashAtEnd = refl
found_by_name kind.SpaceInValue = refl
found_by_name kind.SeveralOnLine = refl
found_by_name kind.Semicolon = refl
found_by_name kind.TextAfterQuote = refl
found_by_name kind.SlashComment = refl
found_by_name kind.UnquotedKey = refl
found_by_name kind.CommandWithSpace = refl
found_by_name kind.Array = refl
found_by_name kind.TypographicQuotes = refl
found_by_name kind.BareNameInQuotes = refl
found_by_name kind.DollarBeforeQuote = refl
found_by_name kind.OpenBrace = refl
found_by_name kind.BackslashInPlainValue = refl
found_by_name kind.CarriageReturnEscape = refl
found_by_name kind.TabEscape = refl
found_by_name kind.UnknownEscape = refl
found_by_name kind.LineContinuation = refl
found_by_name kind.QuoteAfterName = refl
found_by_name kind.NoEqualsSign = refl
found_by_name kind.ExportWithoutValue = refl
found_by_name kind.ExportOption = refl
found_by_name kind.Colon = refl
found_by_name kind.OtherWord = refl
found_by_name kind.Section = refl
found_by_name kind.OtherComment = refl
found_by_name kind.Merge = refl
found_by_name kind.NameCharacter = refl
found_by_name kind.NameStart = refl
found_by_name kind.NoName = refl
found_by_name kind.NotUtf8 = refl
found_by_name kind.Utf16 = refl
found_by_name kind.Latin1 = refl
found_by_name kind.OtherFault = refl
found_by_name kind.UnknownName = refl
found_by_name kind.UnknownBracedName = refl
found_by_name kind.LaterName = refl
found_by_name kind.OwnName = refl
found_by_name kind.Default = refl
found_by_name kind.Required = refl
found_by_name kind.EmptyBraces = refl
found_by_name kind.BlankInBraces = refl
found_by_name kind.LoneDollar = refl
found_by_name kind.Command = refl
found_by_name kind.NameBeforeUnderscore = refl
found_by_name kind.TextAfterName = refl
found_by_name kind.DroppedBackslash = refl
found_by_name kind.DeclaredTwice = refl
found_by_name kind.Nul = refl
found_by_name kind.QuoteClosedLater = refl
found_by_name kind.QuoteInComment = refl
found_by_name kind.HashAfterEquals = refl
found_by_name kind.DroppedQuotes = refl
found_by_name kind.HashAfterQuote = refl
found_by_name kind.SemicolonAfterQuote = refl
found_by_name kind.LoneCarriageReturn = refl
found_by_name kind.TypographicText = refl
found_by_name kind.OddSpace = refl
found_by_name kind.Tilde = refl
found_by_name kind.HereDocument = refl
found_by_name kind.KeyLine = refl

pub returns : goal.returns
returns c = (
  found_by_name,
  λ name found e.
      (bytes_eq-Decides (kind_name found) name).0 (found_passes (λ each. bytes_eq (kind_name each) name) kinds found e),
)
