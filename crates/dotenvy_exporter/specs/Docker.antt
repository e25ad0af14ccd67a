-- How `docker run --env-file` reads a text (28.2), and what is written for it. It reads nothing (None) of a text that
-- docker refuses, or in which a name has no `=`, so that docker asks its own environment.
use Rattle.std.specs.Prelude.{ℕ, Bool, false, not, ◌&&◌, ◌||◌, ◌==◌, nat_lt, List, [], ◌∷◌}
use Rattle.std.specs.Prelude.{◌++◌, length}
use Rattle.std.specs.Prelude.{if◌then◌else◌, Option, Some, None, encode_utf8_all}
use Rattle.std.specs.Char.{is_whitespace}
use Rattle.std.specs.List.{list_all, flat_map}
use Rattle.std.specs.Str.{is_utf8, chars}
use Rattle.dotenvy_format.specs.Characters.{tab, line_feed, carriage_return, space, hash}
use Rattle.dotenvy_format.specs.Characters.{equals_sign}
use Rattle.dotenvy_exporter.specs.declared.refusal.Reason.{Reason}
use Rattle.dotenvy_exporter.specs.declared.refusal.Reason.TheVariants as reason
use Rattle.dotenvy_exporter.specs.Texts.{Pair, mark_character, has, onto_first, onto_pairs}
use Rattle.dotenvy_exporter.specs.Texts.{split_at_equals}

-- what a line gives: a pair, or a name whose value docker's own environment gives
pub data Item : Type 0 where
  Gives : List ℕ → List ℕ → Item
  Asks : List ℕ → Item

-- the text cut at line feeds; after the last of them there is a line only if there is a character
abbrev pub docker_lines : List ℕ → List (List ℕ)
docker_lines [] = []
docker_lines (c ∷ cs) =
    if c == line_feed then [] ∷ docker_lines cs else onto_first c (docker_lines cs)

-- the line without one carriage return at its end
abbrev pub without_return : List ℕ → List ℕ
without_return [] = []
without_return (c ∷ []) = if c == carriage_return then [] else c ∷ []
without_return (c ∷ d ∷ cs) = c ∷ without_return (d ∷ cs)

-- the text without a byte order mark at its beginning
abbrev pub without_mark : List ℕ → List ℕ
without_mark [] = []
without_mark (c ∷ cs) = if c == mark_character then cs else c ∷ cs

-- the line without the white space at its beginning
abbrev pub trimmed : List ℕ → List ℕ
trimmed [] = []
trimmed (c ∷ cs) = if is_whitespace c then trimmed cs else c ∷ cs

-- a line of 65,536 bytes or more is refused
abbrev pub fits_scanner : List ℕ → Bool
fits_scanner line = nat_lt (length (encode_utf8_all line)) 65536

-- a name is not empty and has no space or tab
abbrev pub is_docker_name : List ℕ → Bool
is_docker_name [] = false
is_docker_name (c ∷ cs) = not (has space (c ∷ cs)) && not (has tab (c ∷ cs))

-- the items of a name and of what is after its `=`, and of the lines after it; None is a refusal of
-- the whole
abbrev pub then_items : Option Pair → List ℕ → Option (List Item) → Option (List Item)
then_items parts text None = None
then_items None text (Some items) =
    if is_docker_name text then Some (Asks text ∷ items) else None
then_items (Some (name, value)) text (Some items) =
    if is_docker_name name then Some (Gives name value ∷ items) else None

-- the items of a trimmed line and of the lines after it: none of an empty line, or of one that begins
-- with `#`
abbrev pub line_items : List ℕ → Option (List Item) → Option (List Item)
line_items [] items = items
line_items (c ∷ cs) items =
    if c == hash then items else then_items (split_at_equals (c ∷ cs)) (c ∷ cs) items

-- the items of lines
abbrev pub lines_items : List (List ℕ) → Option (List Item)
lines_items [] = Some []
lines_items (line ∷ lines) = line_items (trimmed (without_return line)) (lines_items lines)

-- what docker reads of a text: items in order, or None where it refuses the file
abbrev pub docker_reads : List ℕ → Option (List Item)
docker_reads text =
    if list_all fits_scanner (docker_lines text)
    then lines_items (docker_lines (without_mark text)) else None

-- what docker reads of bytes: it refuses what is not UTF-8
abbrev pub docker_reads_bytes : List ℕ → Option (List Item)
docker_reads_bytes bytes = if is_utf8 bytes then docker_reads (chars bytes) else None

-- the text's last character is a carriage return
abbrev pub ends_in_return : List ℕ → Bool
ends_in_return [] = false
ends_in_return (c ∷ []) = c == carriage_return
ends_in_return (c ∷ d ∷ cs) = ends_in_return (d ∷ cs)

-- after a value that ends in a carriage return stands one more, which docker drops
abbrev pub closing : List ℕ → List ℕ
closing value = if ends_in_return value then carriage_return ∷ [] else []

-- what is written for a pair: NAME=VALUE and a line feed
abbrev pub docker_line : List ℕ → List ℕ → List ℕ
docker_line name value = name ++ equals_sign ∷ (value ++ (closing value ++ line_feed ∷ []))

-- what is written for pairs
abbrev pub docker_text : List Pair → List ℕ
docker_text pairs = flat_map (λ pair. docker_line pair.0 pair.1) pairs

-- docker reads the name as it is: it begins with no white space, `#` or mark, and has no `=`, line
-- feed, space or tab
abbrev pub name_holds : List ℕ → Bool
name_holds [] = false
name_holds (c ∷ cs) =
    (not (is_whitespace c || c == hash || c == mark_character)
    && (not (has equals_sign (c ∷ cs)) && not (has line_feed (c ∷ cs))))
    && (not (has space (c ∷ cs)) && not (has tab (c ∷ cs)))

-- why docker can't be given this pair, if it can't
abbrev pub docker_refusal : Pair → Option Reason
docker_refusal (name, value) =
    if not (name_holds name) then Some reason.Name else
    if has 0 (name ++ value) then Some reason.Nul else
    if has line_feed value then Some reason.LineFeed else
    if fits_scanner (name ++ equals_sign ∷ (value ++ closing value)) then None
    else Some reason.TooLong

-- the pairs as items
abbrev pub gives : List Pair → List Item
gives [] = []
gives ((name, value) ∷ pairs) = Gives name value ∷ gives pairs

-- the pairs of these items, if each gives one
abbrev pub given : List Item → Option (List Pair)
given [] = Some []
given (Gives name value ∷ items) = onto_pairs (name, value) (given items)
given (Asks name ∷ items) = None

-- the pairs of items that docker reads, if it takes the file
abbrev pub given_of : Option (List Item) → Option (List Pair)
given_of None = None
given_of (Some items) = given items

-- the pairs that docker reads of bytes, or None where it refuses them, or asks its own environment
abbrev pub docker_reads_pairs : List ℕ → Option (List Pair)
docker_reads_pairs bytes = given_of (docker_reads_bytes bytes)
