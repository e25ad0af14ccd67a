-- Quotes that stay open, or that are closed by a later one.
use Rattle.dotenvy_findings.specs.Characters.{is_letter}
use Rattle.std.specs.Prelude.{ℕ, Bool, true, false, not, ◌&&◌, ◌||◌, ◌==◌, List, Option, Some, None}
use Rattle.std.specs.Prelude.{if◌then◌else◌, nat_lt}
use Rattle.std.specs.Char.{is_whitespace}
use Rattle.dotenvy_format.specs.declared.walk.LineMode.{LineMode}
use Rattle.dotenvy_format.specs.declared.walk.LineMode.TheVariants.{AfterBlank, Escaping, Inside}
use Rattle.dotenvy_format.specs.declared.walk.LineMode.TheVariants.{InsideEscaping, Outside}
use Rattle.dotenvy_format.specs.Characters.{double_quote, hash, line_feed}
use Rattle.dotenvy_format.specs.inside.Walk.{leads}
use Rattle.dotenvy_findings.specs.declared.finding.LineFault.{LineFault}
use Rattle.dotenvy_findings.specs.declared.kind.Kind.{Kind}
use Rattle.dotenvy_findings.specs.declared.kind.Kind.TheVariants as kind
use Rattle.dotenvy_findings.specs.declared.open.OpenCursor.{OpenCursor}
use Rattle.dotenvy_findings.specs.declared.open.Suspect.{Suspect}
use Rattle.dotenvy_findings.specs.declared.place.Place.{Place}
use Rattle.dotenvy_findings.specs.Characters.{begins_declaration}
use Rattle.dotenvy_findings.specs.Places.{next_place, one_more}

-- the mode is that of a part in quotes
abbrev pub is_inside : LineMode → Bool
is_inside Outside = false
is_inside Escaping = false
is_inside (Inside quote) = true
is_inside (InsideEscaping quote) = true
is_inside AfterBlank = false

-- this mode, if there is one, else that outside quotes
abbrev pub mode_or_outside : Option LineMode → LineMode
mode_or_outside None = Outside
mode_or_outside (Some mode) = mode

-- the cursor before a text that begins at this place; the value begins with a single quote at this
-- one, if it does
abbrev pub open_begun : Place → Option Place → OpenCursor
open_begun start single = record {
  single = single;
  mode = Outside;
  place = start;
  last = start;
  before = None;
  has_hash = false;
  opened = (kind.OtherFault, start);
  suspect = None;
}

-- the mode behind one more character of a line that doesn't end
abbrev pub mode_after : LineMode → ℕ → LineMode
mode_after mode c = mode_or_outside (leads mode c)

-- what is told of a single quote behind a letter: the value begins with one, or it is an apostrophe
abbrev pub apostrophe_kind : Option Place → Place → Kind × Place
apostrophe_kind (Some start) place = (kind.OpenSingleQuote, start)
apostrophe_kind None place = (kind.OpenApostrophe, place)

-- what is told of a quote that is opened at the cursor, if it stays open
abbrev pub opened_kind : OpenCursor → ℕ → Kind × Place
opened_kind cursor quote =
    if cursor.has_hash then (kind.OpenQuoteInComment, cursor.place) else
    if quote == double_quote then (kind.OpenDoubleQuote, cursor.place) else
    if is_letter cursor.before then apostrophe_kind cursor.single cursor.place
    else (kind.OpenSingleQuote, cursor.place)

-- a blank
abbrev pub is_blank_before : Option ℕ → Bool
is_blank_before None = false
is_blank_before (Some c) = is_whitespace c

-- what looks like a comment was begun outside quotes on the physical line, behind one more
-- character
abbrev pub has_hash_after : OpenCursor → ℕ → Bool
has_hash_after cursor c =
    if c == line_feed then false else
    if c == hash && not (is_inside cursor.mode)
    then (cursor.has_hash || is_blank_before cursor.before) else cursor.has_hash

-- a quote of which this is told, with a declaration on this physical line
abbrev pub suspected : Kind × Place → ℕ → Suspect
suspected (kind, place) line = record { kind = kind; place = place; line = line }

-- the first suspect quote: the one that was met, or else this one, if it is one
abbrev pub suspect_or : Option Suspect → Bool → Suspect → Option Suspect
suspect_or (Some suspect) is_suspect next = Some suspect
suspect_or None is_suspect next = if is_suspect then Some next else None

-- the first suspect quote, behind one more character, before this text
abbrev pub suspect_after : OpenCursor → ℕ → List ℕ → Option Suspect
suspect_after cursor c rest =
    suspect_or cursor.suspect
    ((c == line_feed && is_inside cursor.mode) && begins_declaration rest)
    (suspected cursor.opened (next_place cursor.place c).line)

-- the cursor behind this character, before this text, where this is the mode then
abbrev pub open_moved : OpenCursor → ℕ → List ℕ → LineMode → OpenCursor
open_moved cursor c rest next = record cursor {
  mode = next;
  place = next_place cursor.place c;
  last = cursor.place;
  before = Some c;
  has_hash = has_hash_after cursor c;
  opened =
      if is_inside next && not (is_inside cursor.mode) then opened_kind cursor c
      else cursor.opened;
  suspect = suspect_after cursor c rest;
}

-- the cursor behind this character, before this text
abbrev pub open_after : OpenCursor → ℕ → List ℕ → OpenCursor
open_after cursor c rest = open_moved cursor c rest (mode_after cursor.mode c)

-- the fault of this kind at this place, behind which nothing is a guess
abbrev pub fault_alone : Kind → Place → LineFault
fault_alone kind place = record { kind = kind; place = place; behind = None }

-- a suspect quote as the fault: what follows is a guess from the line of the declaration on
abbrev pub suspect_fault : Suspect → LineFault
suspect_fault suspect =
    record { kind = suspect.kind; place = suspect.place; behind = Some suspect.line }

-- the physical line behind that of the first place, if the second is on a later one
abbrev pub later_line : Place → Place → Option ℕ
later_line start end = if nat_lt start.line end.line then Some (one_more start.line) else None

-- the last quote that was opened as the fault of a text that begins at this place: what follows is
-- a guess from the second physical line on
abbrev pub opened_fault : OpenCursor → Place → LineFault
opened_fault cursor start =
    record {
      kind = cursor.opened.0;
      place = cursor.opened.1;
      behind = later_line start cursor.place;
    }

-- why a line that begins at this place stays open in this mode
abbrev pub open_in : OpenCursor → Place → LineMode → LineFault
open_in cursor start Outside = fault_alone kind.OtherFault cursor.last
open_in cursor start Escaping = fault_alone kind.BackslashAtEnd cursor.last
open_in cursor start (Inside quote) = opened_fault cursor start
open_in cursor start (InsideEscaping quote) = opened_fault cursor start
open_in cursor start AfterBlank = fault_alone kind.BlankAtEnd cursor.last

-- why a line stays open: the first suspect quote, or else what its mode says
abbrev pub open_or : OpenCursor → Place → Option Suspect → LineFault
open_or cursor start (Some suspect) = suspect_fault suspect
open_or cursor start None = open_in cursor start cursor.mode

-- why the line, which begins at this place, stays open, with the cursor at its end
abbrev pub open_fault : OpenCursor → Place → LineFault
open_fault cursor start = open_or cursor start cursor.suspect
