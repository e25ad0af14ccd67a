-- The text of a logical line: why it is no declaration, and what is told of one.
use Rattle.dotenvy_findings.specs.Opens.{fault_alone, open_after, open_begun, open_fault}
use Rattle.dotenvy_findings.specs.Opens.{suspect_fault}
use Rattle.dotenvy_findings.specs.declared.finding.LineFault.{LineFault}
use Rattle.dotenvy_findings.specs.declared.open.OpenCursor.{OpenCursor}
use Rattle.dotenvy_findings.specs.declared.open.Suspect.{Suspect}
use Rattle.dotenvy_findings.specs.Causes.{line_kind}
use Rattle.dotenvy_findings.specs.declared.kind.Kind.TheVariants.{OpenQuoteInComment}
use Rattle.dotenvy_findings.specs.declared.kind.Kind.TheVariants.{QuoteClosedLater, QuoteInComment}
use Rattle.dotenvy_format.specs.Characters.{single_quote}
use Rattle.std.specs.Prelude.{ℕ, Bool, true, ◌&&◌, ◌-◌, ◌==◌, List, [], ◌∷◌, length, nat_le, take}
use Rattle.std.specs.Prelude.{Option, Some, None, if◌then◌else◌}
use Rattle.std.specs.Char.{is_ascii_alphanumeric}
use Rattle.std.specs.Str.{chars}
use Rattle.dotenvy_format.specs.declared.dialect.Dialect.{Dialect}
use Rattle.dotenvy_format.specs.Characters.{begins_with, equals_sign, hash}
use Rattle.dotenvy_findings.specs.declared.kind.Kind.{Kind}
use Rattle.dotenvy_findings.specs.declared.kind.Kind.TheVariants.{HashAfterEquals, KeyLine}
use Rattle.dotenvy_findings.specs.declared.place.Place.{Place}
use Rattle.dotenvy_findings.specs.Causes.{after_equals, skip_white, statement_fault}
use Rattle.dotenvy_findings.specs.Places.{place_after}
use Rattle.dotenvy_findings.specs.Readings.{Known, Told, fault_of, value_marks, with_told}

-- each character is a letter or a digit of ASCII
abbrev pub has_only_letters : List ℕ → Bool
has_only_letters [] = true
has_only_letters (c ∷ cs) = is_ascii_alphanumeric c && has_only_letters cs

-- what is assigned, if this is a declaration
abbrev pub value_text : List ℕ → List ℕ
value_text text = skip_white (after_equals text)

-- the place of what is left of a text that begins at this place
abbrev pub place_left : Place → List ℕ → List ℕ → Place
place_left start text left = place_after start (take (length text - length left) text)

-- the place of what is assigned
abbrev pub value_place : Place → List ℕ → Place
value_place start text = place_left start text (value_text text)

-- the fault of a line that is no statement, or else that of its value
abbrev pub fault_or : Dialect → Place → List ℕ → Option (Kind × ℕ) → Kind × Place
fault_or dialect start text (Some (kind, offset)) = (kind, place_after start (take offset text))
fault_or dialect start text None = fault_of dialect (value_place start text) (value_text text)

-- the cause and the place of the fault of a line that is no declaration
abbrev pub line_fault : Dialect → Place → List ℕ → Kind × Place
line_fault dialect start text = fault_or dialect start text (statement_fault text)

-- the cursor behind this text
abbrev pub walked : List ℕ → OpenCursor → OpenCursor
walked [] cursor = cursor
walked (c ∷ cs) cursor = walked cs (open_after cursor c cs)

-- the place of a value that begins with a single quote
abbrev pub single_place : List ℕ → Place → Option Place
single_place value place = if begins_with single_quote value then Some place else None

-- the cursor behind a line that begins at this place
abbrev pub walked_line : Place → List ℕ → OpenCursor
walked_line start text =
    walked text (open_begun start (single_place (value_text text) (value_place start text)))

-- this fault, or the suspect quote, if the fault is told on the line of its declaration or later
abbrev pub suspect_before : Kind × Place → Option Suspect → LineFault
suspect_before (kind, place) None = fault_alone kind place
suspect_before (kind, place) (Some suspect) =
    if nat_le suspect.line place.line then suspect_fault suspect else fault_alone kind place

-- why a line is no declaration, where no part of it stays open
abbrev pub closed_fault : Dialect → Place → List ℕ → LineFault
closed_fault dialect start text =
    suspect_before (line_fault dialect start text) (walked_line start text).suspect

-- the fault of a line that begins with no name, or else that of a line that stays open
abbrev pub open_fault_or : Place → List ℕ → Option Kind → LineFault
open_fault_or start text (Some k) = fault_alone k (place_left start text (skip_white text))
open_fault_or start text None = open_fault (walked_line start text) start

-- why a line is no declaration, where it stays open
abbrev pub open_line_fault : Place → List ℕ → LineFault
open_line_fault start text = open_fault_or start text (line_kind (skip_white text))

-- what is told of a quote that is closed later, by what is told of it if it stays open
abbrev pub closed_kind : Kind → Kind
closed_kind OpenQuoteInComment = QuoteInComment
closed_kind k = QuoteClosedLater

-- what is told of the first suspect quote of a declaration, if there is one
abbrev pub suspect_told : Option Suspect → Option (Kind × Place)
suspect_told None = None
suspect_told (Some suspect) = Some (closed_kind suspect.kind, suspect.place)

-- a name has the form of a part of a key in PEM form: it is long, and has letters and digits alone
abbrev pub has_key_form : List ℕ → Bool
has_key_form key = nat_le 20 (length key) && has_only_letters key

-- nothing is assigned, or a comment, or an equals sign alone
abbrev pub is_nothing : List ℕ → Bool
is_nothing [] = true
is_nothing (c ∷ cs) = if c == hash then true else (c == equals_sign && length cs == 0)

-- what is told of a key to which nothing or a comment is assigned
abbrev pub empty_kind : Place → List ℕ → List ℕ → Option (Kind × Place)
empty_kind start text key =
    if begins_with hash (after_equals text)
    then Some (HashAfterEquals, place_left start text (after_equals text)) else
    if has_key_form key then Some (KeyLine, place_left start text (skip_white text)) else None

-- a kind at its place alone, if there is one
abbrev pub told_once : Option (Kind × Place) → List Told
told_once None = []
told_once (Some (kind, place)) = record { kind = kind; place = place; name = [] } ∷ []

-- what is told of the key and the value of a declaration, where these names have a value
abbrev pub own_marks : Known → List ℕ → Dialect → Place → List ℕ → List Told
own_marks known key dialect start text =
    if is_nothing (value_text text) then told_once (empty_kind start text (chars key)) else
    value_marks (record { known = known; key = key; value = value_text text }) dialect
    (value_place start text)

-- these, and what was found, if nothing of its kind was told
abbrev pub with_found : Option (Kind × Place) → List Told → List Told
with_found None marks = marks
with_found (Some (k, place)) marks =
    with_told (record { kind = k; place = place; name = [] }) marks

-- what is told of a declaration of this key, where these names have a value
abbrev pub line_marks : Known → List ℕ → Dialect → Place → List ℕ → List Told
line_marks known key dialect start text =
    with_found (suspect_told (walked_line start text).suspect)
    (own_marks known key dialect start text)
