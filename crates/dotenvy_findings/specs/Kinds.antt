-- The kinds of findings: their names, what is said of each, and which are faults. The texts are
-- bytes.
use Rattle.std.specs.Prelude.{ℕ, Bool, true, false, List, codes}
use Rattle.dotenvy_findings.specs.declared.kind.Kind.{Kind}
use Rattle.dotenvy_findings.specs.declared.kind.Kind.TheVariants as kind

-- a load stops at a line with this kind
abbrev pub is_fault : Kind → Bool
is_fault kind.OpenDoubleQuote = true
is_fault kind.OpenSingleQuote = true
is_fault kind.OpenApostrophe = true
is_fault kind.OpenQuoteInComment = true
is_fault kind.BlankAtEnd = true
is_fault kind.BackslashAtEnd = true
is_fault kind.SpaceInValue = true
is_fault kind.SeveralOnLine = true
is_fault kind.Semicolon = true
is_fault kind.TextAfterQuote = true
is_fault kind.SlashComment = true
is_fault kind.UnquotedKey = true
is_fault kind.CommandWithSpace = true
is_fault kind.Array = true
is_fault kind.TypographicQuotes = true
is_fault kind.BareNameInQuotes = true
is_fault kind.DollarBeforeQuote = true
is_fault kind.OpenBrace = true
is_fault kind.BackslashInPlainValue = true
is_fault kind.CarriageReturnEscape = true
is_fault kind.TabEscape = true
is_fault kind.UnknownEscape = true
is_fault kind.LineContinuation = true
is_fault kind.QuoteAfterName = true
is_fault kind.NoEqualsSign = true
is_fault kind.ExportWithoutValue = true
is_fault kind.ExportOption = true
is_fault kind.Colon = true
is_fault kind.OtherWord = true
is_fault kind.Section = true
is_fault kind.OtherComment = true
is_fault kind.Merge = true
is_fault kind.NameCharacter = true
is_fault kind.NameStart = true
is_fault kind.NoName = true
is_fault kind.NotUtf8 = true
is_fault kind.Utf16 = true
is_fault kind.Latin1 = true
is_fault kind.OtherFault = true
is_fault kind.UnknownName = false
is_fault kind.UnknownBracedName = false
is_fault kind.LaterName = false
is_fault kind.OwnName = false
is_fault kind.Default = false
is_fault kind.Required = false
is_fault kind.EmptyBraces = false
is_fault kind.BlankInBraces = false
is_fault kind.LoneDollar = false
is_fault kind.Command = false
is_fault kind.NameBeforeUnderscore = false
is_fault kind.TextAfterName = false
is_fault kind.DroppedBackslash = false
is_fault kind.DeclaredTwice = false
is_fault kind.Nul = false
is_fault kind.QuoteClosedLater = false
is_fault kind.QuoteInComment = false
is_fault kind.HashAfterEquals = false
is_fault kind.DroppedQuotes = false
is_fault kind.HashAfterQuote = false
is_fault kind.SemicolonAfterQuote = false
is_fault kind.LoneCarriageReturn = false
is_fault kind.TypographicText = false
is_fault kind.OddSpace = false
is_fault kind.Tilde = false
is_fault kind.HereDocument = false
is_fault kind.KeyLine = false

-- the name of the kind in reports
abbrev pub kind_name : Kind → List ℕ
kind_name kind.OpenDoubleQuote = codes "open-double-quote"
kind_name kind.OpenSingleQuote = codes "open-single-quote"
kind_name kind.OpenApostrophe = codes "open-apostrophe"
kind_name kind.OpenQuoteInComment = codes "open-quote-in-comment"
kind_name kind.BlankAtEnd = codes "blank-at-end"
kind_name kind.BackslashAtEnd = codes "backslash-at-end"
kind_name kind.SpaceInValue = codes "space-in-value"
kind_name kind.SeveralOnLine = codes "several-on-line"
kind_name kind.Semicolon = codes "semicolon"
kind_name kind.TextAfterQuote = codes "text-after-quote"
kind_name kind.SlashComment = codes "slash-comment"
kind_name kind.UnquotedKey = codes "unquoted-key"
kind_name kind.CommandWithSpace = codes "command-with-space"
kind_name kind.Array = codes "array"
kind_name kind.TypographicQuotes = codes "typographic-quotes"
kind_name kind.BareNameInQuotes = codes "bare-name-in-quotes"
kind_name kind.DollarBeforeQuote = codes "dollar-before-quote"
kind_name kind.OpenBrace = codes "open-brace"
kind_name kind.BackslashInPlainValue = codes "backslash-in-plain-value"
kind_name kind.CarriageReturnEscape = codes "carriage-return-escape"
kind_name kind.TabEscape = codes "tab-escape"
kind_name kind.UnknownEscape = codes "unknown-escape"
kind_name kind.LineContinuation = codes "line-continuation"
kind_name kind.QuoteAfterName = codes "quote-after-name"
kind_name kind.NoEqualsSign = codes "no-equals-sign"
kind_name kind.ExportWithoutValue = codes "export-without-value"
kind_name kind.ExportOption = codes "export-option"
kind_name kind.Colon = codes "colon"
kind_name kind.OtherWord = codes "other-word"
kind_name kind.Section = codes "section"
kind_name kind.OtherComment = codes "other-comment"
kind_name kind.Merge = codes "merge"
kind_name kind.NameCharacter = codes "name-character"
kind_name kind.NameStart = codes "name-start"
kind_name kind.NoName = codes "no-name"
kind_name kind.NotUtf8 = codes "not-utf-8"
kind_name kind.Utf16 = codes "utf-16"
kind_name kind.Latin1 = codes "latin-1"
kind_name kind.OtherFault = codes "other-fault"
kind_name kind.UnknownName = codes "unknown-name"
kind_name kind.UnknownBracedName = codes "unknown-braced-name"
kind_name kind.LaterName = codes "later-name"
kind_name kind.OwnName = codes "own-name"
kind_name kind.Default = codes "default"
kind_name kind.Required = codes "required"
kind_name kind.EmptyBraces = codes "empty-braces"
kind_name kind.BlankInBraces = codes "blank-in-braces"
kind_name kind.LoneDollar = codes "lone-dollar"
kind_name kind.Command = codes "command"
kind_name kind.NameBeforeUnderscore = codes "name-before-underscore"
kind_name kind.TextAfterName = codes "text-after-name"
kind_name kind.DroppedBackslash = codes "dropped-backslash"
kind_name kind.DeclaredTwice = codes "declared-twice"
kind_name kind.Nul = codes "nul"
kind_name kind.QuoteClosedLater = codes "quote-closed-later"
kind_name kind.QuoteInComment = codes "quote-in-comment"
kind_name kind.HashAfterEquals = codes "hash-after-equals"
kind_name kind.DroppedQuotes = codes "dropped-quotes"
kind_name kind.HashAfterQuote = codes "hash-after-quote"
kind_name kind.SemicolonAfterQuote = codes "semicolon-after-quote"
kind_name kind.LoneCarriageReturn = codes "lone-carriage-return"
kind_name kind.TypographicText = codes "typographic-text"
kind_name kind.OddSpace = codes "odd-space"
kind_name kind.Tilde = codes "tilde"
kind_name kind.HereDocument = codes "here-document"
kind_name kind.KeyLine = codes "key-line"

-- what is wrong, and what to type
abbrev pub message : Kind → List ℕ
message kind.OpenDoubleQuote =
    codes "this double quote is never closed; close it, or write \\\" for one that is meant"
message kind.OpenSingleQuote =
    codes "this single quote is never closed; it can hold no single quote, so use double quotes"
message kind.OpenApostrophe =
    codes "this apostrophe opens a quote that is never closed; put the whole value in double quotes"
message kind.OpenQuoteInComment =
    codes "this quote is never closed; write a single space before the # of a comment"
message kind.BlankAtEnd = codes "the file ends with a space; remove it, or end the line"
message kind.BackslashAtEnd = codes "the file ends with a backslash; remove it, or write \\\\"
message kind.SpaceInValue = codes "a value with a space needs quotes; put it in double quotes"
message kind.SeveralOnLine =
    codes "one declaration a line; put the next one on its own line, or the value in quotes"
message kind.Semicolon = codes "a semicolon separates nothing; put each declaration on its own line"
message kind.TextAfterQuote =
    codes "only a comment may follow a closing quote; put the whole value in one pair of quotes"
message kind.SlashComment =
    codes "a comment begins with a space and #; write # here, or put the value in quotes"
message kind.UnquotedKey =
    codes "a key in PEM form needs double quotes, from before BEGIN to after END"
message kind.CommandWithSpace =
    codes "no command is run; put the value in single quotes if it is meant as text"
message kind.Array = codes "there are no arrays; put the value in quotes"
message kind.TypographicQuotes = codes "these quotes are no quotes; write \" in their place"
message kind.BareNameInQuotes =
    codes "in double quotes a name needs braces; write ${NAME}, or \\$ for a dollar"
message kind.DollarBeforeQuote = codes "a dollar takes the closing quote after it; write \\$"
message kind.OpenBrace = codes "these braces are never closed; write ${NAME}, or \\$ for a dollar"
message kind.BackslashInPlainValue =
    codes "a backslash is no text here; put the value in single quotes"
message kind.CarriageReturnEscape =
    codes "there is no escape \\r; remove it, or put a carriage return in quotes as it is"
message kind.TabEscape = codes "there is no escape \\t; a tab can stand as it is"
message kind.UnknownEscape =
    codes "there is no such escape; write \\\\ for a backslash, or use single quotes"
message kind.LineContinuation =
    codes "a value goes on in the next line only in quotes, and without a backslash"
message kind.QuoteAfterName =
    codes "this quote is text, since it follows a name without braces; write ${NAME}"
message kind.NoEqualsSign = codes "there is no = after the name; write NAME=VALUE"
message kind.ExportWithoutValue = codes "a file declares values and exports none; write NAME=VALUE"
message kind.ExportOption = codes "export takes no option here; write NAME=VALUE"
message kind.Colon = codes "this is no = ; write NAME=VALUE"
message kind.OtherWord =
    codes "this word is not part of an environment file; remove it, and write NAME=VALUE"
message kind.Section = codes "there are no sections; remove the line, or make it a comment with #"
message kind.OtherComment = codes "a comment begins with #"
message kind.Merge = codes "a merge is unfinished here; keep one side, and remove this line"
message kind.NameCharacter = codes "a name has letters of ASCII, digits, _ and . only"
message kind.NameStart = codes "a name begins with a letter of ASCII or _"
message kind.NoName = codes "there is no name before the ="
message kind.NotUtf8 = codes "the line is not UTF-8 here; save the file as UTF-8"
message kind.Utf16 = codes "the file is in UTF-16; save it as UTF-8"
message kind.Latin1 =
    codes "this byte is not UTF-8, and the file may be in Latin-1; save it as UTF-8"
message kind.OtherFault =
    codes "this is no line of an environment file; write NAME=VALUE, or make it a comment with #"
message kind.UnknownName =
    codes "the name after this dollar has no value; write \\$ for a dollar, or declare it before"
message kind.UnknownBracedName =
    codes "the name in these braces has no value here; declare it before, or set it"
message kind.LaterName = codes "this name is declared only later; move that line up"
message kind.OwnName =
    codes "a name means what stands before its line, and this one has no value yet"
message kind.Default =
    codes "there are no defaults; declare one on a line before, and write ${NAME}"
message kind.Required = codes "there are no required names, so this gives nothing; write ${NAME}"
message kind.EmptyBraces = codes "these braces have no name, and give nothing; write ${NAME}"
message kind.BlankInBraces = codes "a name in braces has no blanks; write ${NAME}"
message kind.LoneDollar = codes "a dollar without a name gives nothing; write \\$"
message kind.Command =
    codes "no command is run; put the value in single quotes if it is meant as text"
message kind.NameBeforeUnderscore = codes "the name ends before this _; write ${NAME}"
message kind.TextAfterName =
    codes "this character is text, since it follows a name without braces; write ${NAME}"
message kind.DroppedBackslash = codes "a backslash at the end of a value gives nothing; write \\\\"
message kind.DeclaredTwice = codes "this name is declared already, and the first value counts"
message kind.Nul = codes "no value can have a NUL character; remove it"
message kind.QuoteClosedLater =
    codes "this quote is closed on a later line, behind what looks like a declaration"
message kind.QuoteInComment =
    codes "this quote takes the next lines into the comment; write a single space before the #"
message kind.HashAfterEquals =
    codes "a # right after = begins a comment, and the value is empty; put the value in quotes"
message kind.DroppedQuotes =
    codes "quotes inside a value are dropped; put the whole value in quotes of the other kind"
message kind.HashAfterQuote =
    codes "a # right after a closing quote is part of the value; write a space before it"
message kind.SemicolonAfterQuote = codes "this semicolon is part of the value; remove it"
message kind.LoneCarriageReturn =
    codes "a carriage return stands alone before this character; end the line with a line feed"
message kind.TypographicText =
    codes "this quote is no quote, and is part of the value; write \" in its place"
message kind.OddSpace =
    codes "a space that looks like another, or like none, is part of the value; remove it"
message kind.Tilde = codes "~ is not expanded; write the directory, or ${HOME}"
message kind.HereDocument = codes "there are no here documents; put the text in double quotes"
message kind.KeyLine =
    codes "this looks like a line of a key in PEM form; put the whole key in double quotes"

-- the place of the kind in the list of kinds, counted from 0
abbrev pub kind_number : Kind → ℕ
kind_number kind.OpenDoubleQuote = 0
kind_number kind.OpenSingleQuote = 1
kind_number kind.OpenApostrophe = 2
kind_number kind.OpenQuoteInComment = 3
kind_number kind.BlankAtEnd = 4
kind_number kind.BackslashAtEnd = 5
kind_number kind.SpaceInValue = 6
kind_number kind.SeveralOnLine = 7
kind_number kind.Semicolon = 8
kind_number kind.TextAfterQuote = 9
kind_number kind.SlashComment = 10
kind_number kind.UnquotedKey = 11
kind_number kind.CommandWithSpace = 12
kind_number kind.Array = 13
kind_number kind.TypographicQuotes = 14
kind_number kind.BareNameInQuotes = 15
kind_number kind.DollarBeforeQuote = 16
kind_number kind.OpenBrace = 17
kind_number kind.BackslashInPlainValue = 18
kind_number kind.CarriageReturnEscape = 19
kind_number kind.TabEscape = 20
kind_number kind.UnknownEscape = 21
kind_number kind.LineContinuation = 22
kind_number kind.QuoteAfterName = 23
kind_number kind.NoEqualsSign = 24
kind_number kind.ExportWithoutValue = 25
kind_number kind.ExportOption = 26
kind_number kind.Colon = 27
kind_number kind.OtherWord = 28
kind_number kind.Section = 29
kind_number kind.OtherComment = 30
kind_number kind.Merge = 31
kind_number kind.NameCharacter = 32
kind_number kind.NameStart = 33
kind_number kind.NoName = 34
kind_number kind.NotUtf8 = 35
kind_number kind.Utf16 = 36
kind_number kind.Latin1 = 37
kind_number kind.OtherFault = 38
kind_number kind.UnknownName = 39
kind_number kind.UnknownBracedName = 40
kind_number kind.LaterName = 41
kind_number kind.OwnName = 42
kind_number kind.Default = 43
kind_number kind.Required = 44
kind_number kind.EmptyBraces = 45
kind_number kind.BlankInBraces = 46
kind_number kind.LoneDollar = 47
kind_number kind.Command = 48
kind_number kind.NameBeforeUnderscore = 49
kind_number kind.TextAfterName = 50
kind_number kind.DroppedBackslash = 51
kind_number kind.DeclaredTwice = 52
kind_number kind.Nul = 53
kind_number kind.QuoteClosedLater = 54
kind_number kind.QuoteInComment = 55
kind_number kind.HashAfterEquals = 56
kind_number kind.DroppedQuotes = 57
kind_number kind.HashAfterQuote = 58
kind_number kind.SemicolonAfterQuote = 59
kind_number kind.LoneCarriageReturn = 60
kind_number kind.TypographicText = 61
kind_number kind.OddSpace = 62
kind_number kind.Tilde = 63
kind_number kind.HereDocument = 64
kind_number kind.KeyLine = 65
