-- Lines with a mistake each, and what is told of them: the column of the first line.
use Rattle.std.specs.Prelude.{ℕ, ◌≡◌, ◌++◌, false, List, [], ◌∷◌, Option, Some, None, codes}
use Rattle.dotenvy_format.specs.declared.dialect.Dialect.TheVariants.{V15}
use Rattle.dotenvy_findings.specs.declared.bytes.BadByte.{BadByte}
use Rattle.dotenvy_findings.specs.declared.finding.LineFault.{LineFault}
use Rattle.dotenvy_findings.specs.declared.kind.Kind.{Kind}
use Rattle.dotenvy_findings.specs.declared.kind.Kind.TheVariants as kind
use Rattle.dotenvy_findings.specs.declared.place.Place.{Place}
use Rattle.dotenvy_findings.specs.Bytes.{fresh, watched, with_end}
use Rattle.dotenvy_findings.specs.LineTexts.{closed_fault, line_marks}
use Rattle.dotenvy_findings.specs.LineTexts.{open_line_fault}
use Rattle.dotenvy_findings.specs.Readings.{Told}

-- this column of the first line
abbrev pub column : ℕ → Place
column n = record { line = 1; column = n }

-- this fault in this column of the first line, behind which the lines from this one on are a guess
abbrev pub fault : Kind → ℕ → Option ℕ → LineFault
fault kind n behind = record { kind = kind; place = column n; behind = behind }

-- the line is no declaration, and has this fault in this column
abbrev pub HasFault : List ℕ → Kind → ℕ → Type 0
HasFault line kind n = closed_fault V15 (column 1) line ≡ fault kind n None

-- the text, which is closed, is no declaration, and a quote is the cause, in this column; the lines
-- from this one on are a guess
abbrev pub HasSuspect : List ℕ → Kind → ℕ → ℕ → Type 0
HasSuspect text kind n line = closed_fault V15 (column 1) text ≡ fault kind n (Some line)

-- the text stays open at the end of the file by this cause, in this column; the lines from this one
-- on are a guess, if there is one
abbrev pub StaysOpen : List ℕ → Kind → ℕ → Option ℕ → Type 0
StaysOpen text kind n behind = open_line_fault (column 1) text ≡ fault kind n behind

-- this is told in this column, of this name if there is one
abbrev pub told : Kind → ℕ → List ℕ → Told
told kind n name = record { kind = kind; place = column n; name = name }

-- this is told of the line, which declares A, where no name has a value
abbrev pub HasMarks : List ℕ → List Told → Type 0
HasMarks line marks = line_marks (λ name. false) (codes "A") V15 (column 1) line ≡ marks

-- lines that are no declarations, and the fault of each
abbrev pub HaveFaults : Type 0
HaveFaults =
    HasFault (codes "APP_NAME=My App") kind.SpaceInValue 12
    × HasFault (codes "REDIS_URL: redis://x") kind.Colon 10
    × HasFault (codes "KEY-WITH-DASH=1") kind.NameCharacter 4
    × HasFault (codes "2FA_SECRET=x") kind.NameStart 1
    × HasFault (codes "EMPTY") kind.NoEqualsSign 6
    × HasFault (codes "=x") kind.NoName 1
    × HasFault (codes "export C") kind.ExportWithoutValue 1
    × HasFault (codes "export -n F=6") kind.ExportOption 8
    × HasFault (codes "set D=4") kind.OtherWord 1
    × HasFault (codes "[section]") kind.Section 1
    × HasFault (codes "// comment") kind.OtherComment 1
    × HasFault (codes ">>>>>>> branch") kind.Merge 1
    × HasFault (codes "A=1; B=2") kind.Semicolon 5
    × HasFault (codes "H=1 I=2") kind.SeveralOnLine 4
    × HasFault (codes "A=1 // not") kind.SlashComment 4
    × HasFault (codes "H=\"x\" \"y\"") kind.TextAfterQuote 6
    × HasFault (codes "ARR=(a b)") kind.Array 5
    × HasFault (codes "BUILD=$(git x)") kind.CommandWithSpace 7
    × HasFault (codes "JWT=-----BEGIN KEY") kind.UnquotedKey 5
    × HasFault (codes "P9=C:\\Users") kind.BackslashInPlainValue 6
    × HasFault (codes "P10=\"C:\\Users\"") kind.UnknownEscape 8
    × HasFault (codes "T=\"a\\tb\"") kind.TabEscape 5
    × HasFault (codes "PA=\"abc$def\"") kind.BareNameInQuotes 8
    × HasFault (codes "PB=\"abc$\"") kind.DollarBeforeQuote 8
    × HasFault (codes "U=\"${HOST\"") kind.OpenBrace 4

-- texts of several lines, in which a quote stays open or is closed by a later one
abbrev pub HaveOpenQuotes : Type 0
HaveOpenQuotes =
    HasSuspect (codes "A=\"x\nB=1\nC=\"y z") kind.OpenDoubleQuote 3 2
    × HasSuspect (codes "A='x\ny\nB=1\nC='y z") kind.OpenSingleQuote 3 3
    × HasFault (codes "A=b \"x\nB=1\n\"") kind.SpaceInValue 4
    × StaysOpen (codes "A=\"x\nB=1\nC=\"y \"z") kind.OpenDoubleQuote 3 (Some 2)
    × StaysOpen (codes "A=\"x\ny\n") kind.OpenDoubleQuote 3 (Some 2)
    × StaysOpen (codes "A=\"x") kind.OpenDoubleQuote 3 None
    × StaysOpen (codes "A=x ") kind.BlankAtEnd 4 None
    × StaysOpen (codes "A=x\\") kind.BackslashAtEnd 4 None
    × StaysOpen (codes "[a 'b]\nB=1\n") kind.Section 1 None
    × StaysOpen (codes "A=x  # 'c") kind.OpenQuoteInComment 8 None
    × StaysOpen (codes "A=\"a # b\" 'd") kind.OpenSingleQuote 11 None
    × HasMarks (codes "A=\"x #1\"'y\nB=1'") (told kind.QuoteClosedLater 9 [] ∷ [])

-- a bad byte at this place, and what the file seems to be
abbrev pub bad : ℕ → ℕ → Kind → BadByte
bad line n hint = record { place = record { line = line; column = n }; hint = hint }

-- these are the bad bytes of a file
abbrev pub HasBadBytes : List ℕ → List BadByte → Type 0
HasBadBytes file bytes = (with_end (watched fresh file)).found ≡ bytes

-- files, and the bad bytes of each
abbrev pub HaveBadBytes : Type 0
HaveBadBytes =
    HasBadBytes (codes "A=1\n") []
    × HasBadBytes (0xC3 ∷ 0xA9 ∷ 0xE2 ∷ 0x82 ∷ 0xAC ∷ 0xF0 ∷ 0x9F ∷ 0x98 ∷ 0x80 ∷ []) []
    × HasBadBytes (codes "A=" ++ 0xC3 ∷ 0xA9 ∷ 0xE9 ∷ 0x20 ∷ []) (bad 1 4 kind.Latin1 ∷ [])
    × HasBadBytes (codes "A=" ++ 0xE9 ∷ 0x20 ∷ 0xE8 ∷ 0x0A ∷ 0xE8 ∷ [])
    (bad 1 3 kind.Latin1 ∷ bad 2 1 kind.Latin1 ∷ [])
    × HasBadBytes (codes "A=" ++ 0xE2 ∷ 0x82 ∷ []) (bad 1 3 kind.NotUtf8 ∷ [])
    × HasBadBytes (codes "A=" ++ 0x93 ∷ 0x0A ∷ []) (bad 1 3 kind.NotUtf8 ∷ [])
    × HasBadBytes (codes "A=" ++ 0xC0 ∷ 0x80 ∷ []) (bad 1 3 kind.NotUtf8 ∷ [])
    × HasBadBytes (codes "A=" ++ 0xED ∷ 0xA0 ∷ 0x80 ∷ []) (bad 1 3 kind.NotUtf8 ∷ [])
    × HasBadBytes (0xEF ∷ 0xBB ∷ 0xBF ∷ codes "A" ++ 0xE9 ∷ []) (bad 1 2 kind.Latin1 ∷ [])
    × HasBadBytes (0xFF ∷ 0xFE ∷ 0x41 ∷ 0x00 ∷ 0x0A ∷ 0x00 ∷ []) (bad 1 1 kind.Utf16 ∷ [])

-- lines that declare A, and what is told of each
abbrev pub HaveMarks : Type 0
HaveMarks =
    HasMarks (codes "A=$X") (told kind.UnknownName 3 (codes "X") ∷ [])
    × HasMarks (codes "A=${X}") (told kind.UnknownBracedName 3 (codes "X") ∷ [])
    × HasMarks (codes "A=$A:b") (told kind.OwnName 3 (codes "A") ∷ [])
    × HasMarks (codes "A=${T:-x}") (told kind.Default 3 [] ∷ [])
    × HasMarks (codes "A=${D:?m}") (told kind.Required 3 [] ∷ [])
    × HasMarks (codes "A=${}") (told kind.EmptyBraces 3 [] ∷ [])
    × HasMarks (codes "A=pa$$w")
    (told kind.LoneDollar 5 [] ∷ told kind.UnknownName 6 (codes "w") ∷ [])
    × HasMarks (codes "A=x\\") (told kind.DroppedBackslash 4 [] ∷ [])
    × HasMarks (codes "A=~/d") (told kind.Tilde 3 [] ∷ [])
    × HasMarks (codes "A=#s") (told kind.HashAfterEquals 3 [] ∷ [])
    × HasMarks (codes "A={\"a\"}") (told kind.DroppedQuotes 4 [] ∷ [])
    × HasMarks (codes "A=\"a\"#c") (told kind.HashAfterQuote 6 [] ∷ [])
    × HasMarks (codes "A=$B_c") (told kind.NameBeforeUnderscore 5 [] ∷ [])
    × HasMarks (codes "A='x' # c") []
