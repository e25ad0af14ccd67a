-- Where the bytes of a file are no text: the first byte of each physical line that is part of no
-- character in UTF-8.
use Rattle.std.specs.Prelude.{ℕ, Bool, true, false, not, ◌&&◌, ◌==◌, nat_le, nat_lt, List}
use Rattle.std.specs.Prelude.{[], ◌∷◌, ◌++◌, Option, Some, None, if◌then◌else◌}
use Rattle.dotenvy_format.specs.Characters.{line_feed}
use Rattle.dotenvy_findings.specs.declared.bytes.BadByte.{BadByte}
use Rattle.dotenvy_findings.specs.declared.bytes.BadBytes.{BadBytes}
use Rattle.dotenvy_findings.specs.declared.bytes.ByteCursor.{ByteCursor}
use Rattle.dotenvy_findings.specs.declared.bytes.CharacterPart.{CharacterPart}
use Rattle.dotenvy_findings.specs.declared.bytes.CharacterPart.TheVariants.{AllButOne, AllButTwo}
use Rattle.dotenvy_findings.specs.declared.bytes.CharacterPart.TheVariants.{First, NoText, Nothing}
use Rattle.dotenvy_findings.specs.declared.bytes.MarkPart.{MarkPart}
use Rattle.dotenvy_findings.specs.declared.bytes.MarkPart.TheVariants as mark
use Rattle.dotenvy_findings.specs.declared.kind.Kind.{Kind}
use Rattle.dotenvy_findings.specs.declared.kind.Kind.TheVariants.{Latin1, NotUtf8, Utf16}
use Rattle.dotenvy_findings.specs.declared.place.Place.{Place}
use Rattle.dotenvy_findings.specs.Places.{next_place, one_more}

-- the byte can be a later one of a character
abbrev pub is_continuation : ℕ → Bool
is_continuation byte = nat_le 0x80 byte && nat_le byte 0xBF

-- the byte can be the first one of a character of several bytes
abbrev pub is_first : ℕ → Bool
is_first byte = nat_le 0xC2 byte && nat_le byte 0xF4

-- the least second byte behind this first one: below it the character would have a shorter form
abbrev pub least_second : ℕ → ℕ
least_second first = if first == 0xE0 then 0xA0 else if first == 0xF0 then 0x90 else 0x80

-- the greatest second byte behind this first one: above it there is no character
abbrev pub greatest_second : ℕ → ℕ
greatest_second first = if first == 0xED then 0x9F else if first == 0xF4 then 0x8F else 0xBF

-- the byte can be the second one of a character with this first byte
abbrev pub is_second : ℕ → ℕ → Bool
is_second first byte =
    is_first first && (nat_le (least_second first) byte && nat_le byte (greatest_second first))

-- how much was read of a character behind its first two bytes
abbrev pub part_behind : ℕ → CharacterPart
part_behind first =
    if nat_lt first 0xE0 then Nothing else if nat_lt first 0xF0 then AllButOne else AllButTwo

-- how much was read behind one more byte
abbrev pub part_after : CharacterPart → ℕ → CharacterPart
part_after Nothing byte = if nat_lt byte 0x80 then Nothing else First byte
part_after (First first) byte = if is_second first byte then part_behind first else NoText
part_after AllButOne byte = if is_continuation byte then Nothing else NoText
part_after AllButTwo byte = if is_continuation byte then AllButOne else NoText
part_after NoText byte = NoText

-- the rest of the line is skipped
abbrev pub skips : CharacterPart → Bool
skips Nothing = false
skips (First first) = false
skips AllButOne = false
skips AllButTwo = false
skips NoText = true

-- the place of the first character of a file
abbrev pub is_start : Place → Bool
is_start place = place.line == 1 && place.column == 1

-- no byte follows, or one of ASCII
abbrev pub is_ascii_or_end : Option ℕ → Bool
is_ascii_or_end None = true
is_ascii_or_end (Some byte) = nat_lt byte 0x80

-- what the file seems to be, where this byte at this place is no text, and this one follows
abbrev pub first_hint : Place → ℕ → Option ℕ → Kind
first_hint place byte next =
    if is_start place && nat_le 0xFE byte then Utf16 else
    if nat_le 0xA0 byte && is_ascii_or_end next then Latin1 else NotUtf8

-- what the file seems to be, where a character of which this much was read is none, and this byte
-- follows
abbrev pub part_hint : Place → CharacterPart → Option ℕ → Kind
part_hint place (First first) next = first_hint place first next
part_hint place Nothing next = NotUtf8
part_hint place AllButOne next = NotUtf8
part_hint place AllButTwo next = NotUtf8
part_hint place NoText next = NotUtf8

-- what the file seems to be, where the character at the cursor is none, and this byte follows
abbrev pub hint : ByteCursor → Option ℕ → Kind
hint cursor next = part_hint cursor.place cursor.part next

-- the character at the cursor as a bad byte, where this byte follows
abbrev pub bad_here : ByteCursor → Option ℕ → BadByte
bad_here cursor next = record { place = cursor.place; hint = hint cursor next }

-- the bad byte that is known of with one more byte, if there is one
abbrev pub bad_before : ByteCursor → ℕ → Option BadByte
bad_before cursor byte =
    if skips (part_after cursor.part byte) && not (skips cursor.part)
    then Some (bad_here cursor (Some byte)) else None

-- how much of a byte order mark was read behind one more byte
abbrev pub mark_after : MarkPart → ℕ → MarkPart
mark_after mark.Nothing byte = if byte == 0xEF then mark.First else mark.Past
mark_after mark.First byte = if byte == 0xBB then mark.Second else mark.Past
mark_after mark.Second byte = mark.Past
mark_after mark.Past byte = mark.Past

-- this byte ends a byte order mark
abbrev pub ends_mark : MarkPart → ℕ → Bool
ends_mark mark.Nothing byte = false
ends_mark mark.First byte = false
ends_mark mark.Second byte = byte == 0xBF
ends_mark mark.Past byte = false

-- no character is in the middle
abbrev pub is_whole : CharacterPart → Bool
is_whole Nothing = true
is_whole (First first) = false
is_whole AllButOne = false
is_whole AllButTwo = false
is_whole NoText = false

-- the place behind a byte within a line, with which this much of a character was read; a byte order
-- mark has no place
abbrev pub place_behind : ByteCursor → CharacterPart → ℕ → Place
place_behind cursor part byte =
    if is_whole part && not (ends_mark cursor.mark byte)
    then record { line = cursor.place.line; column = one_more cursor.place.column }
    else cursor.place

-- the cursor behind a byte within a line, with which this much of a character was read
abbrev pub moved : ByteCursor → CharacterPart → ℕ → ByteCursor
moved cursor part byte = record {
  place = place_behind cursor part byte;
  part = part;
  mark = mark_after cursor.mark byte;
}

-- the cursor behind the end of a line
abbrev pub next_line : ByteCursor → ℕ → ByteCursor
next_line cursor byte = record {
  place = next_place cursor.place byte;
  part = Nothing;
  mark = mark_after cursor.mark byte;
}

-- the cursor behind one more byte
abbrev pub byte_after : ByteCursor → ℕ → ByteCursor
byte_after cursor byte =
    if byte == line_feed then next_line cursor byte
    else moved cursor (part_after cursor.part byte) byte

-- no byte order mark is in the middle, nor can one begin
abbrev pub is_past : MarkPart → Bool
is_past mark.Nothing = false
is_past mark.First = false
is_past mark.Second = false
is_past mark.Past = true

-- the next byte begins a character, and no byte order mark
abbrev pub is_between : ByteCursor → Bool
is_between cursor = is_whole cursor.part && is_past cursor.mark

-- the bad byte at the end of the file, where this much of a character was read
abbrev pub bad_in : ByteCursor → CharacterPart → Option BadByte
bad_in cursor Nothing = None
bad_in cursor (First first) = Some (bad_here cursor None)
bad_in cursor AllButOne = Some (bad_here cursor None)
bad_in cursor AllButTwo = Some (bad_here cursor None)
bad_in cursor NoText = None

-- the bad byte at the end of the file, if a character is cut off there
abbrev pub bad_at_end : ByteCursor → Option BadByte
bad_at_end cursor = bad_in cursor cursor.part

-- how far a file was watched, and the bad bytes that were found
pub record Watch : Type 0 where
  pub cursor : ByteCursor
  pub found : List BadByte

-- what the code keeps of a watch
abbrev pub watch_of : {A : Type 0} → BadBytes A → Watch
watch_of bytes = record { cursor = bytes.cursor; found = bytes.found.items }

-- a watch that begins with a file
abbrev pub fresh : Watch
fresh = record {
  cursor =
      record { place = record { line = 1; column = 1 }; part = Nothing; mark = mark.Nothing };
  found = [];
}

-- the watch, with a bad byte, if there is one
abbrev pub with_bad : Option BadByte → Watch → Watch
with_bad None watch = watch
with_bad (Some bad) watch = record watch { found = watch.found ++ bad ∷ [] }

-- the watch behind one more byte
abbrev pub stepped : Watch → ℕ → Watch
stepped watch byte =
    record (with_bad (bad_before watch.cursor byte) watch) { cursor = byte_after watch.cursor byte }

-- the watch behind these bytes
abbrev pub watched : Watch → List ℕ → Watch
watched watch [] = watch
watched watch (byte ∷ bytes) = watched (stepped watch byte) bytes

-- the watch at the end of the file
abbrev pub with_end : Watch → Watch
with_end watch =
    record (with_bad (bad_at_end watch.cursor) watch) {
      cursor = record (watch.cursor) { part = NoText };
    }
