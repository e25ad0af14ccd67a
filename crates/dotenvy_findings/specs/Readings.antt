-- The reading of a value, and what is told of it.
use Rattle.std.specs.Prelude.{ℕ, ◌≡◌, Bool, true, false, not, ◌||◌, ◌&&◌, ◌==◌, List, [], ◌∷◌, ◌++◌}
use Rattle.std.specs.Prelude.{map}
use Rattle.std.specs.Prelude.{bytes_eq}
use Rattle.std.specs.Prelude.{Option, Some, None, encode_utf8_all, if◌then◌else◌, string_bytes}
use Rattle.dotenvy_format.specs.declared.dialect.Dialect.{Dialect}
use Rattle.dotenvy_format.specs.declared.text.Quoting.{Quoting}
use Rattle.dotenvy_format.specs.declared.text.Quoting.TheVariants.{Unquoted}
use Rattle.dotenvy_format.specs.Characters.{begins_passing, dollar, is_quote}
use Rattle.dotenvy_format.specs.Value.{is_left_by_name}
use Rattle.dotenvy_findings.specs.declared.cursor.Cursor.{Cursor}
use Rattle.dotenvy_findings.specs.declared.kind.Kind.{Kind}
use Rattle.dotenvy_findings.specs.declared.kind.Kind.TheVariants as kind
use Rattle.dotenvy_findings.specs.declared.place.Place.{Place}
use Rattle.dotenvy_findings.specs.declared.reading.Mark.{Mark}
use Rattle.dotenvy_findings.specs.declared.reading.Reading.{Reading}
use Rattle.dotenvy_findings.specs.declared.state.Before.TheVariants.{Start}
use Rattle.dotenvy_findings.specs.declared.state.State.{State}
use Rattle.dotenvy_findings.specs.declared.state.State.TheVariants.{Bare, Braced, Dollar}
use Rattle.dotenvy_findings.specs.declared.state.State.TheVariants.{Escaped, Outside}
use Rattle.dotenvy_findings.specs.Characters.{is_letter}
use Rattle.dotenvy_findings.specs.Cursors.{cursor_after, value_fault}
use Rattle.dotenvy_findings.specs.Kinds.{kind_number}
use Rattle.dotenvy_findings.specs.Marks.{character_kind}
use Rattle.dotenvy_findings.specs.Names.{unknown_kind, written_kind}
use Rattle.dotenvy_findings.specs.States.{ends_name}

-- names that have a value, by their bytes
abbrev pub Known : Type 0
Known = List ℕ → Bool

-- something that is told of a place, and the name that has no value yet, by its bytes
pub record Told : Type 0 where
  pub kind : Kind
  pub place : Place
  pub name : List ℕ

-- where a value is being read, the characters of the name that is being read, and what was told
pub record ReadingState : Type 0 where
  pub cursor : Cursor
  pub name : List ℕ
  pub marks : List Told

-- what the code tells
abbrev pub mark_of : {A : Type 0} → Mark A → Told
mark_of mark = record { kind = mark.kind; place = mark.place; name = string_bytes mark.name }

-- all that the code tells
abbrev pub marks_of : {A : Type 0} → List (Mark A) → List Told
marks_of marks = map mark_of marks

-- what the code keeps of a value that is being read
abbrev pub reading_of : {N A : Type 0} → Reading N A → ReadingState
reading_of reading = record {
  cursor = reading.cursor;
  name = reading.name.items;
  marks = marks_of reading.marks.items;
}

-- something of this kind was told
abbrev pub has_kind : Kind → List Told → Bool
has_kind kind [] = false
has_kind kind (told ∷ marks) = kind_number told.kind == kind_number kind || has_kind kind marks

-- something is told, if nothing of its kind was told before
abbrev pub with_told : Told → List Told → List Told
with_told told marks = if has_kind told.kind marks then marks else marks ++ told ∷ []

-- the reading, with something told
abbrev pub with_mark : Kind → Place → List ℕ → ReadingState → ReadingState
with_mark kind place name reading = record reading {
  marks = with_told (record { kind = kind; place = place; name = name }) reading.marks;
}

-- where something is told of a character: at it, or at the quote that takes it
abbrev pub kind_place : Kind → Cursor → Place
kind_place kind.QuoteInComment cursor = cursor.quote
kind_place other cursor = cursor.place

-- where something is told of the writing of a name: at its dollar, or at what ends it
abbrev pub name_place : Kind → Cursor → Place
name_place kind.NameBeforeUnderscore cursor = cursor.place
name_place kind.TextAfterName cursor = cursor.place
name_place other cursor = cursor.opener

-- the state is that of a name in braces
abbrev pub is_braced : State → Bool
is_braced (Braced quoting) = true
is_braced state = false

-- what is told of a name that is written well: nothing, if it has a value
abbrev pub with_known : Known → List ℕ → List ℕ → ReadingState → ReadingState
with_known known key name reading =
    if known name then reading else
    with_mark (unknown_kind (is_braced reading.cursor.state) (bytes_eq name key))
    reading.cursor.opener name reading

-- what is told of a name: of its writing, or else of its value
abbrev pub with_written : Known → List ℕ → Option Kind → ReadingState → ReadingState
with_written known key (Some kind) reading =
    with_mark kind (name_place kind reading.cursor) [] reading
with_written known key None reading =
    with_known known key (encode_utf8_all reading.name) reading

-- what is told of the name that was read, by the character behind it that is text: nothing, if it
-- is in braces and has a value
abbrev pub with_name : Known → List ℕ → Option ℕ → ReadingState → ReadingState
with_name known key follows reading =
    if is_braced reading.cursor.state && known (encode_utf8_all reading.name) then reading else
    with_written known key (written_kind reading.cursor.state reading.name follows) reading

-- the name that is being read, by the states around one more character
abbrev pub name_by : State → State → ℕ → List ℕ → List ℕ
name_by state (Dollar quoting) c name = []
name_by state (Bare quoting) c name = name ++ c ∷ []
name_by (Braced before) (Braced quoting) c name = name ++ c ∷ []
name_by state next c name = name

-- the reading, with the name behind one more character
abbrev pub name_after : State → ℕ → ReadingState → ReadingState
name_after next c reading =
    record reading { name = name_by reading.cursor.state next c reading.name }

-- the reading, with what is told of a character
abbrev pub with_character : Option Kind → ReadingState → ReadingState
with_character None reading = reading
with_character (Some kind) reading =
    with_mark kind (kind_place kind reading.cursor) [] reading

-- the character that ends a bare name, if it is text
abbrev pub text_of_bare : Dialect → Quoting → ℕ → Option ℕ
text_of_bare dialect quoting c = if is_left_by_name dialect quoting c then None else Some c

-- the character that ends a name in this state, if it is text
abbrev pub text_in : Dialect → State → ℕ → Option ℕ
text_in dialect (Dollar quoting) c = text_of_bare dialect quoting c
text_in dialect (Bare quoting) c = text_of_bare dialect quoting c
text_in dialect (Braced quoting) c = None
text_in dialect state c = if c == dollar then None else Some c

-- the character that ends a name, if it is text
abbrev pub text_behind : Cursor → ℕ → Option ℕ
text_behind cursor c = text_in cursor.dialect cursor.state c

-- the reading, with what is told of a name that ends before or with this character
abbrev pub with_ended : Known → List ℕ → ℕ → ReadingState → ReadingState
with_ended known key c reading =
    if ends_name reading.cursor.dialect reading.cursor.state c
    then with_name known key (text_behind reading.cursor c) reading else reading

-- the reading, moved to this cursor by this character
abbrev pub moved_to : Cursor → ℕ → ReadingState → ReadingState
moved_to cursor c reading =
    record (name_after cursor.state c reading) { cursor = cursor }

-- a quote in a value that begins with one is no mistake, unless it follows a letter or a number
abbrev pub unless_quoted : Bool → Option Kind → Option Kind
unless_quoted is_quoted (Some kind.DroppedQuotes) =
    if is_quoted then None else Some kind.DroppedQuotes
unless_quoted is_quoted other = other

-- what is told of a character of this value, behind which is the rest
abbrev pub told_kind : Cursor → ℕ → List ℕ → List ℕ → Option Kind
told_kind cursor c value rest =
    unless_quoted (begins_passing is_quote value && not (is_letter cursor.before))
    (character_kind cursor.state cursor.before c rest)

-- the reading, with what is told of this character of this value, behind which is the rest
abbrev pub told_character : ℕ → List ℕ → List ℕ → ReadingState → ReadingState
told_character c value rest reading =
    with_character (told_kind reading.cursor c value rest) reading

-- the reading, moved behind this character, with which this is left of this value
abbrev pub stepped : ℕ → List ℕ → List ℕ → ReadingState → ReadingState
stepped c value left reading = moved_to (cursor_after reading.cursor c value left) c reading

-- what is asked: which names have a value, the name that the value is for, and the value
pub record Asked : Type 0 where
  pub known : Known
  pub key : List ℕ
  pub value : List ℕ

-- the reading behind one more character, which is the first of what is left, before the rest
abbrev pub with_step : Asked → ℕ → List ℕ → List ℕ → ReadingState → ReadingState
with_step asked c left rest reading =
    stepped c asked.value left
    (told_character c asked.value rest (with_ended asked.known asked.key c reading))

-- the reading behind this text
abbrev pub read_all : Asked → List ℕ → ReadingState → ReadingState
read_all asked [] reading = reading
read_all asked (c ∷ cs) reading = read_all asked cs (with_step asked c (c ∷ cs) cs reading)

-- the reading at the end of the value, in this state
abbrev pub ended_in : Known → List ℕ → State → ReadingState → ReadingState
ended_in known key (Dollar Unquoted) reading = with_name known key None reading
ended_in known key (Bare Unquoted) reading = with_name known key None reading
ended_in known key (Escaped Unquoted) reading =
    with_mark kind.DroppedBackslash reading.cursor.opener [] reading
ended_in known key state reading = reading

-- the reading at the end of the value
abbrev pub with_end : Known → List ℕ → ReadingState → ReadingState
with_end known key reading = ended_in known key reading.cursor.state reading

-- the cursor at the start of a value
abbrev pub begun : Dialect → Place → Cursor
begun dialect start = record {
  dialect = dialect;
  start = start;
  state = Outside Start;
  place = start;
  quote = start;
  opener = start;
  before = None;
  ended = None;
  swallowed = None;
}

-- the cursor behind this text of this value
abbrev pub value_end : List ℕ → List ℕ → Cursor → Cursor
value_end value [] cursor = cursor
value_end value (c ∷ cs) cursor = value_end value cs (cursor_after cursor c value (c ∷ cs))

-- the cause and the place of the fault of a text that is no value
abbrev pub fault_of : Dialect → Place → List ℕ → Kind × Place
fault_of dialect start value = value_fault (value_end value value (begun dialect start))

-- the reading of a value of which nothing was read
abbrev pub not_read : Dialect → Place → ReadingState
not_read dialect start = record { cursor = begun dialect start; name = []; marks = [] }

-- what is told of a value in this dialect, which begins at this place
abbrev pub value_marks : Asked → Dialect → Place → List Told
value_marks asked dialect start =
    (with_end asked.known asked.key (read_all asked asked.value (not_read dialect start))).marks

-- what the code asks
abbrev pub asked_of : {N A : Type 0} → (N → List ℕ → Bool) → Reading N A → Asked
asked_of has_value reading = record {
  known = has_value reading.names.now;
  key = reading.key.now;
  value = reading.value.now;
}

-- what is asked stays the same
abbrev pub IsSame : {N A : Type 0} → Reading N A → Reading N A → Type 0
IsSame old new = (new.names ≡ old.names) × (new.key ≡ old.key) × (new.value ≡ old.value)
