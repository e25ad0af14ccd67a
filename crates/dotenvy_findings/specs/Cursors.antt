-- Where the reading of a value is, and what it keeps of what was read.
use Rattle.std.specs.Prelude.{ℕ, Bool, true, false, ◌==◌, List, Option, Some, None, if◌then◌else◌}
use Rattle.dotenvy_format.specs.declared.text.Quoting.TheVariants.{Unquoted, DoubleQuoted}
use Rattle.dotenvy_format.specs.Characters.{double_quote, is_quote}
use Rattle.dotenvy_findings.specs.declared.state.Before.TheVariants.{Text}
use Rattle.dotenvy_findings.specs.declared.cursor.Cursor.{Cursor}
use Rattle.dotenvy_findings.specs.declared.kind.Kind.{Kind}
use Rattle.dotenvy_findings.specs.declared.kind.Kind.TheVariants as kind
use Rattle.dotenvy_findings.specs.declared.place.Place.{Place}
use Rattle.dotenvy_findings.specs.declared.state.State.{State}
use Rattle.dotenvy_findings.specs.declared.state.State.TheVariants.{Bare, Braced, Comment}
use Rattle.dotenvy_findings.specs.declared.state.State.TheVariants.{CommentQuote, Dollar}
use Rattle.dotenvy_findings.specs.declared.state.State.TheVariants.{Double, Escaped, Failed}
use Rattle.dotenvy_findings.specs.declared.state.State.TheVariants.{Outside, Single, Tail}
use Rattle.dotenvy_findings.specs.Causes.{tail_kind}
use Rattle.dotenvy_findings.specs.Places.{next_place}
use Rattle.dotenvy_findings.specs.States.{next_state}

-- a character opens a quote, by the states around it
abbrev pub opens_quote : State → State → Bool
opens_quote (Outside before) Single = true
opens_quote (Outside before) Double = true
opens_quote Comment CommentQuote = true
opens_quote state next = false

-- a dollar, a backslash or the blanks behind a value begin with a character, by the states around
-- it
abbrev pub begins_here : State → State → Bool
begins_here Tail Tail = false
begins_here state Tail = true
begins_here state (Escaped quoting) = true
begins_here state (Dollar quoting) = true
begins_here state next = false

-- the fault of a quote that is taken as text behind a name, by the states around it
abbrev pub swallowed_kind : State → State → ℕ → Option Kind
swallowed_kind (Dollar DoubleQuoted) Double c =
    if c == double_quote then Some kind.DollarBeforeQuote else None
swallowed_kind (Bare DoubleQuoted) Double c =
    if c == double_quote then Some kind.BareNameInQuotes else None
swallowed_kind (Dollar Unquoted) (Outside Text) c =
    if is_quote c then Some kind.QuoteAfterName else None
swallowed_kind (Bare Unquoted) (Outside Text) c =
    if is_quote c then Some kind.QuoteAfterName else None
swallowed_kind state next c = None

-- the fault is one of a backslash
abbrev pub is_of_escape : Kind → Bool
is_of_escape kind.BackslashInPlainValue = true
is_of_escape kind.LineContinuation = true
is_of_escape kind.CarriageReturnEscape = true
is_of_escape kind.TabEscape = true
is_of_escape kind.UnknownEscape = true
is_of_escape other = false

-- the fault is one of the whole value
abbrev pub is_of_whole : Kind → Bool
is_of_whole kind.UnquotedKey = true
is_of_whole kind.CommandWithSpace = true
is_of_whole kind.Array = true
is_of_whole kind.OpenSingleQuote = true
is_of_whole kind.TypographicQuotes = true
is_of_whole other = false

-- a fault behind the blanks after a value is told by its cause
abbrev pub told_state : Option ℕ → State → State → List ℕ → List ℕ → State
told_state ended Tail (Failed kind) value left = Failed (tail_kind value left ended)
told_state ended state next value left = next

-- the state behind this character, with which this is left of this value
abbrev pub state_after : Cursor → ℕ → List ℕ → List ℕ → State
state_after cursor c value left =
    told_state cursor.ended cursor.state (next_state cursor.dialect cursor.state c) value left

-- this name, if there is one, took a quote, else the one before did
abbrev pub swallowed_by : Option Kind → Cursor → Option (Kind × Place)
swallowed_by None cursor = cursor.swallowed
swallowed_by (Some kind.QuoteAfterName) cursor = Some (kind.QuoteAfterName, cursor.place)
swallowed_by (Some k) cursor = Some (k, cursor.opener)

-- the name that took a closing quote, behind this character
abbrev pub swallowed_after : Cursor → State → ℕ → Option (Kind × Place)
swallowed_after cursor next c =
    swallowed_by (swallowed_kind cursor.state next c) cursor

-- the character before the blanks behind the value, by the states around one more character
abbrev pub ended_by : State → State → Option ℕ → Option ℕ → Option ℕ
ended_by Tail next before ended = ended
ended_by state Tail before ended = before
ended_by state next before ended = ended

-- the character before the blanks behind the value, behind one more character
abbrev pub ended_after : Cursor → State → Option ℕ
ended_after cursor next = ended_by cursor.state next cursor.before cursor.ended

-- the cursor behind this character, where the state is this one then
abbrev pub moved : Cursor → ℕ → State → Cursor
moved cursor c next = record cursor {
  state = next;
  place = next_place cursor.place c;
  quote = if opens_quote cursor.state next then cursor.place else cursor.quote;
  opener = if begins_here cursor.state next then cursor.place else cursor.opener;
  before = Some c;
  ended = ended_after cursor next;
  swallowed = swallowed_after cursor next c;
}

-- the cursor behind this character, with which this is left of this value
abbrev pub cursor_after : Cursor → ℕ → List ℕ → List ℕ → Cursor
cursor_after cursor c value left = moved cursor c (state_after cursor c value left)

-- the name that took a quote, if one did, else this
abbrev pub unless_swallowed : Option (Kind × Place) → Kind → Place → Kind × Place
unless_swallowed (Some found) k place = found
unless_swallowed None k place = (k, place)

-- the fault behind the blanks after a value
abbrev pub tail_fault : Cursor → Kind → Kind × Place
tail_fault cursor k =
    if is_of_escape k then (k, cursor.opener) else
    unless_swallowed cursor.swallowed k (if is_of_whole k then cursor.start else cursor.opener)

-- the fault of a value that is none, with the cursor at its end in this state
abbrev pub fault_in : Cursor → State → Kind × Place
fault_in cursor (Failed k) = tail_fault cursor k
fault_in cursor (Braced quoting) = (kind.OpenBrace, cursor.opener)
fault_in cursor (Dollar DoubleQuoted) = (kind.DollarBeforeQuote, cursor.opener)
fault_in cursor (Bare DoubleQuoted) = (kind.BareNameInQuotes, cursor.opener)
fault_in cursor Double = unless_swallowed cursor.swallowed kind.OpenDoubleQuote cursor.quote
fault_in cursor (Escaped DoubleQuoted) =
    unless_swallowed cursor.swallowed kind.OpenDoubleQuote cursor.quote
fault_in cursor Single = unless_swallowed cursor.swallowed kind.OpenSingleQuote cursor.quote
fault_in cursor state = (kind.OtherFault, cursor.start)

-- the fault of a value that is none, with the cursor at its end
abbrev pub value_fault : Cursor → Kind × Place
value_fault cursor = fault_in cursor cursor.state
