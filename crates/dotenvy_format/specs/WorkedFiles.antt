-- Worked files: examples of what files say. A file is written as its characters.
use Prim.Native.String.{String}
use Rattle.std.specs.Prelude.{◌≡◌, ℕ, List, [], ◌∷◌, ◌++◌, codes, encode_utf8_all}
use Rattle.std.specs.declared.io.ErrorKind.TheVariants.{InvalidData}
use Rattle.dotenvy_format.specs.declared.dialect.Dialect.TheVariants.{V15, Next}
use Rattle.dotenvy_format.specs.Value.{Piece, Text, Name, LastBackslash}
use Rattle.dotenvy_format.specs.Outcome.{Says, Pair, Fault}
use Rattle.dotenvy_format.specs.Entries.{Entry, Declares, Fails, LineParse, Io, HasEntries}
use Rattle.dotenvy_format.specs.Marks.{without_mark}
use Rattle.dotenvy_format.specs.Written.{written_pair}
use Rattle.dotenvy_format.specs.Decided.{HasDecided}

-- the bytes of a file with these characters
abbrev pub file : String → List ℕ
file characters = encode_utf8_all (codes characters)

-- a byte that is in no UTF-8 text
abbrev pub broken_byte : List ℕ
broken_byte = 0xFF ∷ []

-- a piece that means these characters
abbrev pub text_piece : String → Piece
text_piece characters = Text (codes characters)

-- a piece that means what this name stands for
abbrev pub name_of : String → Piece
name_of name = Name (codes name) []

-- a piece that means what this name stands for, and then these characters
abbrev pub name_before : String → String → Piece
name_before name after = Name (codes name) (codes after)

-- a declaration of a key
abbrev pub declares : String → List Piece → Entry
declares key pieces = Declares (codes key) pieces

-- a fault with its text and its index
abbrev pub fault_in : String → ℕ → Entry
fault_in text index = Fails (LineParse (codes text) index)

-- a line that is not UTF-8
abbrev pub broken_line : Entry
broken_line = Fails (Io InvalidData)

-- which physical lines make a logical line
abbrev pub HaveLines : Type 0
HaveLines =
    -- quotes join lines, and keep each character between them
    HasEntries V15 (file "A=\"x\ny\"\nB=2\n")
    (declares "A" (text_piece "x" ∷ text_piece "\n" ∷ text_piece "y" ∷ [])
    ∷ declares "B" (text_piece "2" ∷ []) ∷ [])
    -- a carriage return before a line feed is dropped with it, except between quotes
    × HasEntries V15 (file "A=1\r\nB=\"x\r\ny\"\r\n")
    (declares "A" (text_piece "1" ∷ [])
    ∷ declares "B" (text_piece "x" ∷ text_piece "\r" ∷ text_piece "\n" ∷ text_piece "y" ∷ [])
    ∷ [])
    -- a skipped line opens no quote
    × HasEntries V15 (file " # it's\nA=1\n") (declares "A" (text_piece "1" ∷ []) ∷ [])
    -- after one blank `#` begins a comment, and the quote in it opens nothing
    × HasEntries V15 (file "A=1 # it's\nB=2\n")
    (declares "A" (text_piece "1" ∷ []) ∷ declares "B" (text_piece "2" ∷ []) ∷ [])
    -- two blanks are one token, so `#` after them begins no comment, and the quote opens; the value still ends there
    × HasEntries V15 (file "A=1  # it's\nB=2\n") (fault_in "A=1  # it's\nB=2\n" 16 ∷ [])
    × HasEntries V15 (file "K=a  # b\n") (declares "K" (text_piece "a" ∷ []) ∷ [])
    -- after three blanks `#` begins a comment
    × HasEntries V15 (file "A=1   # it's\nB=2\n")
    (declares "A" (text_piece "1" ∷ []) ∷ declares "B" (text_piece "2" ∷ []) ∷ [])
    -- one blank at the end of the input leaves the line open; two blanks do not
    × HasEntries V15 (file "K=1 ") (fault_in "K=1 " 4 ∷ [])
    × HasEntries V15 (file "K=1  ") (declares "K" (text_piece "1" ∷ []) ∷ [])
    -- a broken line drops the open text before it; a line is broken even if the bad byte is in a comment
    × HasEntries V15 (file "A=\"x\n" ++ broken_byte ++ file "\nB=2\n")
    (broken_line ∷ declares "B" (text_piece "2" ∷ []) ∷ [])
    × HasEntries V15 (file "A=1 # " ++ broken_byte ++ file "\nB=2\n")
    (broken_line ∷ declares "B" (text_piece "2" ∷ []) ∷ [])
    -- a backslash before a line feed does not join lines: it is left at the end of the value, where it means nothing
    × HasEntries V15 (file "K=a\\\nL=1\n")
    (declares "K" (text_piece "a" ∷ LastBackslash ∷ []) ∷ declares "L" (text_piece "1" ∷ []) ∷ [])
    × HasEntries V15 (file "K=a\\ \n") (declares "K" (text_piece "a" ∷ LastBackslash ∷ []) ∷ [])
    × HasEntries V15 (file "K=a\\\r\nL=1\n")
    (declares "K" (text_piece "a" ∷ LastBackslash ∷ []) ∷ declares "L" (text_piece "1" ∷ []) ∷ [])
    -- a backslash takes the quote after it, even in single quotes
    × HasEntries V15 (file "K='a\\'\nB=2\n") (fault_in "K='a\\'\nB=2\n" 11 ∷ [])
    -- an open end is one fault, from its first line to the end of the input
    × HasEntries V15 (file "KEY=my uncool value\nKEY2=\"why\nKEY3='please stop''\nKEY4=h\\8u\n")
    (fault_in "my uncool value" 3 ∷ fault_in "KEY2=\"why\nKEY3='please stop''\nKEY4=h\\8u\n" 40
    ∷ [])
    × HasEntries V15 (file "K=#'\n") (fault_in "K=#'\n" 5 ∷ [])

-- keys, `export`, and lines that are not a statement
abbrev pub HaveStatements : Type 0
HaveStatements =
    -- white space may be before the key and around the `=`; a comment or an empty line says nothing
    HasEntries V15 (file "  _b.C \t= 1\n# c\n\n") (declares "_b.C" (text_piece "1" ∷ []) ∷ [])
    -- `export` before a key is a prefix; otherwise it is a key
    × HasEntries V15 (file "export\nexport=1\nexport export=1\nexport A\n")
    (fault_in "export" 6 ∷ declares "export" (text_piece "1" ∷ [])
    ∷ declares "export" (text_piece "1" ∷ []) ∷ fault_in "export A" 8 ∷ [])
    -- the fault has the whole line, and the index of the first byte that is wrong
    × HasEntries V15 (file "  invalid    \nvery bacon = yes indeed\n=value\n.Key=VALUE")
    (fault_in "  invalid    " 9 ∷ fault_in "very bacon = yes indeed" 5 ∷ fault_in "=value" 0
    ∷ fault_in ".Key=VALUE" 0 ∷ [])

-- values, and the places of faults in them
abbrev pub HaveValues : Type 0
HaveValues =
    -- nothing is assigned, or a comment
    HasEntries V15 (file "K=\nL=  # c\nM=#x\n")
    (declares "K" [] ∷ declares "L" [] ∷ declares "M" [] ∷ [])
    × HasEntries V15 (file "K=a#b\n")
    (declares "K" (text_piece "a" ∷ text_piece "#" ∷ text_piece "b" ∷ []) ∷ [])
    -- escapes, outside quotes and in double quotes, and a dollar in single quotes
    × HasEntries V15 (file "K=\\$\\ \"\\n\"'\\$A'\n")
    (declares "K" (text_piece "$" ∷ text_piece " " ∷ text_piece "\n" ∷ text_piece "\\$A" ∷ [])
    ∷ [])
    -- the index of a fault counts characters
    × HasEntries V15 (file "K=é\\f\nVALUE=>\\f<\nKEY=my uncool value\n")
    (fault_in "é\\f" 2 ∷ fault_in ">\\f<" 2 ∷ fault_in "my uncool value" 3 ∷ [])
    × HasEntries V15 (file "K=\"a\\\nb\"\n") (fault_in "\"a\\\nb\"" 3 ∷ [])
    -- if a value only lacks its end, the index is its number of bytes less one
    × HasEntries V15 (file "K='a\\'b'\nL=\"é$A\"\n")
    (fault_in "'a\\'b'" 5 ∷ fault_in "\"é$A\"" 5 ∷ [])
    -- names of every form
    × HasEntries V15 (file "A=$\nB=${}x\nC=$$x\nD=a$-b\nE=$A b\nF=${A\n")
    (declares "A" (name_of "" ∷ [])
    ∷ declares "B" (name_of "" ∷ text_piece "x" ∷ [])
    ∷ declares "C" (name_of "" ∷ name_of "x" ∷ [])
    ∷ declares "D" (text_piece "a" ∷ name_before "" "-" ∷ text_piece "b" ∷ [])
    ∷ declares "E" (name_before "A" " " ∷ text_piece "b" ∷ [])
    ∷ fault_in "${A" 2
    ∷ [])

-- lines that end in an open quote, which no file gives: a value without its end, or a quote that a name takes
abbrev pub HaveOpenQuotes : Type 0
HaveOpenQuotes =
    Says V15 (codes "KEY3='please stop''") (Fault (codes "'please stop''") 13)
    -- the index is the number of bytes less one
    × Says V15 (codes "KEY=é\"é") (Fault (codes "é\"é") 4)
    × Says V15 (codes "KEY=é'é") (Fault (codes "é'é") 4)
    × Says V15 (codes "KEY=\"é\\") (Fault (codes "\"é\\") 3)
    -- outside quotes a quote after a bare name is text; in double quotes it closes them
    × Says Next (codes "F=$A\"") (Pair (codes "F") (name_before "A" "\"" ∷ []))
    × Says Next (codes "E=\"$\"x") (Pair (codes "E") (name_of "" ∷ text_piece "x" ∷ []))

-- one file under each dialect
abbrev pub HaveDialects : Type 0
HaveDialects =
    -- in double quotes a bare name may be right before the closing quote
    HasEntries V15 (file "K=\"é$A\"\n") (fault_in "\"é$A\"" 5 ∷ [])
    × HasEntries Next (file "K=\"é$A\"\n") (declares "K" (text_piece "é" ∷ name_of "A" ∷ []) ∷ [])
    × HasEntries V15 (file "K=\"$\"\n") (fault_in "\"$\"" 2 ∷ [])
    × HasEntries Next (file "K=\"$\"\n") (declares "K" (name_of "" ∷ []) ∷ [])
    -- outside quotes it may not
    × HasEntries V15 (file "K=$A\"\n") (fault_in "K=$A\"\n" 6 ∷ [])
    × HasEntries Next (file "K=$A\"\n") (fault_in "K=$A\"\n" 6 ∷ [])
    -- a bare name may hold `_`
    × HasEntries V15 (file "K=$A_B-\n")
    (declares "K" (name_before "A" "_" ∷ text_piece "B" ∷ text_piece "-" ∷ []) ∷ [])
    × HasEntries Next (file "K=$A_B-\n") (declares "K" (name_before "A_B" "-" ∷ []) ∷ [])

-- byte order marks
abbrev pub HaveMarks : Type 0
HaveMarks =
    -- loads drop a byte order mark
    (without_mark (file "\u{feff}T=1\n") ≡ file "T=1\n")
    × HasEntries V15 (without_mark (file "\u{feff}T=1\n")) (declares "T" (text_piece "1" ∷ []) ∷ [])
    × (without_mark (file "\u{feff}") ≡ [])
    -- iteration does not drop it
    × HasEntries V15 (file "\u{feff}T=1\n") (fault_in "\u{feff}T=1" 0 ∷ [])
    -- a second mark stays, and so does one that comes later
    × (without_mark (file "\u{feff}\u{feff}T=1\n") ≡ file "\u{feff}T=1\n")
    × (without_mark (file " \u{feff}T=1\n") ≡ file " \u{feff}T=1\n")
    -- the first two bytes of a mark alone are not UTF-8, so their line is broken
    × (without_mark (0xEF ∷ 0xBB ∷ []) ≡ 0xEF ∷ 0xBB ∷ [])
    × HasEntries V15 (0xEF ∷ 0xBB ∷ []) (broken_line ∷ [])

-- the written form of a pair
abbrev pub HaveWritten : Type 0
HaveWritten =
    (written_pair (codes "K", codes "a\"b$c\\d\ne") ≡ codes "K=\"a\\\"b\\$c\\\\d\ne\"\n")
    × (written_pair (codes "K", []) ≡ codes "K=\"\"\n")

-- what the first bytes of a file decide
abbrev pub HaveDecisions : Type 0
HaveDecisions =
    -- the lines up to the last line feed
    HasDecided V15 (file "A=1\nB=2") (declares "A" (text_piece "1" ∷ []) ∷ [])
    × HasDecided V15 (file "A=1\nB=2\n")
    (declares "A" (text_piece "1" ∷ []) ∷ declares "B" (text_piece "2" ∷ []) ∷ [])
    × HasDecided V15 (file "A=1") []
    -- and not a line left open
    × HasDecided V15 (file "A=1\nB=\"x\ny\n") (declares "A" (text_piece "1" ∷ []) ∷ [])
