-- How a POSIX shell reads a text of `export NAME=WORD` lines, WORD being of single quotes, backslashes
-- and plain characters alone; and what is written for it. Nothing is said of other texts (None).
use Rattle.std.specs.Prelude.{ℕ, Bool, true, false, not, ◌&&◌, ◌||◌, ◌==◌, List, [], ◌∷◌, ◌++◌}
use Rattle.std.specs.Prelude.{codes}
use Rattle.std.specs.Prelude.{if◌then◌else◌, Option, Some, None, encode_utf8_all}
use Rattle.std.specs.Char.{is_ascii_alphabetic, is_ascii_digit}
use Rattle.std.specs.List.{list_all, flat_map}
use Rattle.std.specs.Str.{is_utf8, chars}
use Rattle.dotenvy_format.specs.Characters.{line_feed, space, single_quote, equals_sign, backslash}
use Rattle.dotenvy_format.specs.Characters.{underscore}
use Rattle.dotenvy_exporter.specs.declared.refusal.Reason.{Reason}
use Rattle.dotenvy_exporter.specs.declared.refusal.Reason.TheVariants as reason
use Rattle.dotenvy_exporter.specs.Reserved.{is_reserved}
use Rattle.dotenvy_exporter.specs.Texts.{Pair, has, onto_first, onto_pairs, onto_part, same}
use Rattle.dotenvy_exporter.specs.Texts.{split_at_equals}

-- where a shell is in a line: outside quotes, between single quotes, or after a backslash
pub data Mode : Type 0 where
  Bare : Mode
  Quoted : Mode
  Escaped : Mode

-- it is outside quotes, and after no backslash
abbrev pub is_bare : Mode → Bool
is_bare Bare = true
is_bare Quoted = false
is_bare Escaped = false

-- where it is after a character
abbrev pub next_mode : Mode → ℕ → Mode
next_mode Bare c =
    if c == single_quote then Quoted else if c == backslash then Escaped else Bare
next_mode Quoted c = if c == single_quote then Bare else Quoted
next_mode Escaped c = Bare

-- the text cut at the line feeds that are outside quotes and after no backslash
abbrev pub shell_lines : Mode → List ℕ → List (List ℕ)
shell_lines mode [] = []
shell_lines mode (c ∷ cs) =
    if is_bare mode && c == line_feed then [] ∷ shell_lines Bare cs
    else onto_first c (shell_lines (next_mode mode c) cs)

-- stands for itself outside quotes
abbrev pub is_plain : ℕ → Bool
is_plain c = (is_ascii_alphabetic c || is_ascii_digit c) || has c (codes "_-./:,+@")

-- the word at the start of a text, without its quotes, and what follows it: nothing, or a space and
-- more. Nothing is said of a NUL (None)
abbrev pub first_word : Mode → List ℕ → Option (List ℕ × List ℕ)
first_word Bare [] = Some ([], [])
first_word Quoted [] = None
first_word Escaped [] = None
first_word Bare (c ∷ cs) =
    if c == space then Some ([], c ∷ cs) else
    if c == single_quote then first_word Quoted cs else
    if c == backslash then first_word Escaped cs else
    if is_plain c then onto_part c (first_word Bare cs) else None
first_word Quoted (c ∷ cs) =
    if c == single_quote then first_word Bare cs else
    if c == 0 then None else onto_part c (first_word Quoted cs)
first_word Escaped (c ∷ cs) =
    if c == line_feed || c == 0 then None else onto_part c (first_word Bare cs)

-- the word, where exactly this follows it
abbrev pub followed_by : List ℕ → Option (List ℕ × List ℕ) → Option (List ℕ)
followed_by rest None = None
followed_by rest (Some (word, more)) = if same more rest then Some word else None

-- a character with which the name of a shell's variable may begin
abbrev pub begins_shell_name : ℕ → Bool
begins_shell_name c = is_ascii_alphabetic c || c == underscore

-- a character that may follow in such a name
abbrev pub continues_shell_name : ℕ → Bool
continues_shell_name c = begins_shell_name c || is_ascii_digit c

-- the name of a shell's variable: letters of ASCII, digits and `_`, with no digit first
abbrev pub is_shell_name : List ℕ → Bool
is_shell_name [] = false
is_shell_name (c ∷ cs) = begins_shell_name c && list_all continues_shell_name cs

-- a shell has a variable of this name, and doesn't keep it
abbrev pub is_exportable : List ℕ → Bool
is_exportable name = is_shell_name name && not (is_reserved (encode_utf8_all name))

-- `export ` as characters
abbrev pub export_word : List ℕ
export_word = codes "export "

-- what is after these characters, where the text begins with them
abbrev pub after : List ℕ → List ℕ → Option (List ℕ)
after [] text = Some text
after (p ∷ ps) [] = None
after (p ∷ ps) (c ∷ cs) = if c == p then after ps cs else None

-- the pair of a name and a value, if there is a value
abbrev pub with_name : List ℕ → Option (List ℕ) → Option Pair
with_name name None = None
with_name name (Some value) = Some (name, value)

-- the pair of what is before and after the first `=`
abbrev pub assigned : Option Pair → Option Pair
assigned None = None
assigned (Some (name, word)) =
    if is_exportable name then with_name name (followed_by [] (first_word Bare word)) else None

-- the pair of what is after `export `
abbrev pub exported : Option (List ℕ) → Option Pair
exported None = None
exported (Some rest) = assigned (split_at_equals rest)

-- the pair of a line before those of the lines after it, if each has one
abbrev pub with_pair : Option Pair → Option (List Pair) → Option (List Pair)
with_pair None pairs = None
with_pair (Some pair) pairs = onto_pairs pair pairs

-- the pairs that lines export, in order
abbrev pub lines_pairs : List (List ℕ) → Option (List Pair)
lines_pairs [] = Some []
lines_pairs (line ∷ lines) = with_pair (exported (after export_word line)) (lines_pairs lines)

-- what a shell exports that is given this text
abbrev pub shell_reads : List ℕ → Option (List Pair)
shell_reads text = lines_pairs (shell_lines Bare text)

-- what a shell reads of bytes, of which nothing is said if they aren't UTF-8
abbrev pub shell_reads_bytes : List ℕ → Option (List Pair)
shell_reads_bytes bytes = if is_utf8 bytes then shell_reads (chars bytes) else None

-- how a character of a value is written
abbrev pub shell_character : ℕ → List ℕ
shell_character c =
    if c == single_quote then single_quote ∷ backslash ∷ single_quote ∷ single_quote ∷ []
    else c ∷ []

-- what is written for a pair: export NAME='VALUE' and a line feed
abbrev pub shell_line : List ℕ → List ℕ → List ℕ
shell_line name value =
    export_word ++ (name ++ equals_sign ∷ single_quote
    ∷ (flat_map shell_character value ++ single_quote ∷ line_feed ∷ []))

-- what is written for pairs
abbrev pub shell_text : List Pair → List ℕ
shell_text pairs = flat_map (λ pair. shell_line pair.0 pair.1) pairs

-- why a shell can't be given this pair, if it can't
abbrev pub shell_refusal : Pair → Option Reason
shell_refusal (name, value) =
    if not (is_shell_name name) then Some reason.Name else
    if is_reserved (encode_utf8_all name) then Some reason.Reserved else
    if has 0 value then Some reason.Nul else None
