-- What is found in a file: its faults, and what looks like a mistake.
use Rattle.std.specs.Prelude.{ℕ, ◌≡◌, ◌==◌, Bool, true, false, not, ◌||◌, ◌&&◌, ◌+◌, ◌-◌, List, [], ◌∷◌}
use Rattle.std.specs.Prelude.{◌++◌, map, min, ◌^◌, nat_le, nat_lt, Option, Some, None, is_some, bytes_eq}
use Rattle.std.specs.Prelude.{encode_utf8_all, if◌then◌else◌}
use Rattle.std.specs.List.{slice_split}
use Rattle.std.specs.Str.{chars, skip_leading_whitespace}
use Rattle.dotenvy_format.specs.declared.dialect.Dialect.{Dialect}
use Rattle.dotenvy_format.specs.declared.walk.LineMode.TheVariants.{Outside}
use Rattle.dotenvy_format.specs.Characters.{begins_with, byte_len, hash, line_feed}
use Rattle.dotenvy_base.specs.Errors.{line_parse_text}
use Rattle.dotenvy_format.specs.Entries.{Entry, Declares, Fails, Failure, Gives}
use Rattle.dotenvy_format.specs.Entries.{LineParse, Io, Nul, Memory}
use Rattle.dotenvy_format.specs.LogicalLine.{Logical, Skip, HasText, StaysOpen, Broken}
use Rattle.dotenvy_format.specs.Outcome.{trimmed}
use Rattle.dotenvy_format.specs.inside.Walk.{Walk, going, ended, walk}
use Rattle.dotenvy_lines.specs.Numbered.{FileLine}
use Rattle.dotenvy_findings.specs.declared.bytes.BadByte.{BadByte}
use Rattle.dotenvy_findings.specs.declared.finding.Finding.{Finding}
use Rattle.dotenvy_findings.specs.declared.finding.LineFault.{LineFault}
use Rattle.dotenvy_findings.specs.declared.kind.Kind.{Kind}
use Rattle.dotenvy_findings.specs.declared.kind.Kind.TheVariants as kind
use Rattle.dotenvy_findings.specs.declared.place.Place.{Place}
use Rattle.dotenvy_findings.specs.Causes.{skip_white}
use Rattle.dotenvy_findings.specs.Characters.{begins_declaration}
use Rattle.dotenvy_findings.specs.Comments.{Allow}
use Rattle.dotenvy_findings.specs.Kinds.{is_fault, kind_number}
use Rattle.dotenvy_findings.specs.LineTexts.{closed_fault, line_marks, open_line_fault, place_left}
use Rattle.dotenvy_findings.specs.Opens.{is_inside}
use Rattle.dotenvy_findings.specs.Readings.{Known, Told}
use Rattle.dotenvy_reports.specs.OneLine.{on_one_line}

-- names that are declared, by their bytes, each with the first line that declares it
abbrev pub Declared : Type 0
Declared = List ℕ → Option ℕ

-- no name is declared
abbrev pub none_declared : Declared
none_declared name = None

-- these, and this key on this line, unless it was declared before
abbrev pub with_key : List ℕ → ℕ → Declared → Declared
with_key key line declared name =
    if is_some (declared key) then declared name else
    if bytes_eq key name then Some line else declared name

-- how a line is checked: which names have a value outside the file, the dialect, whether the line
-- is read as a guess, behind a quote that stays open, whether its text is told, and the number of
-- the line above it, if that may be a comment, or 0
pub record Setting : Type 0 where
  pub names : Known
  pub dialect : Dialect
  pub is_guess : Bool
  pub tells_text : Bool
  pub above : ℕ

-- something that is found, the name that has no value there, if that is found, what a load says of
-- the line, if that is told, and the number of the line above it, if that may be a comment, or 0
pub record Remark : Type 0 where
  pub finding : Finding
  pub name : List ℕ
  pub said : List ℕ
  pub above : ℕ

-- what was found so far, the names that are declared so far, and the number of the last line, if it
-- may be a comment, or 0
pub record SoFar : Type 0 where
  pub remarks : List Remark
  pub declared : Declared
  pub above : ℕ

-- nothing was found yet
abbrev pub nothing_yet : SoFar
nothing_yet = record { remarks = []; declared = none_declared; above = 0 }

-- how the next line is checked: the line above it is the last one
abbrev pub under : SoFar → Setting → Setting
under so_far setting = record setting { above = so_far.above }

-- the names that have a value: outside the file, or since an earlier line declares them
abbrev pub has_value : Known → Declared → Known
has_value names declared name = names name || is_some (declared name)

-- a finding of this kind at this place, with the number of another line, or 0
abbrev pub found : Setting → Kind → Place → ℕ → Remark
found setting k place other = record {
  finding = record { kind = k; place = place; other = other; is_guess = setting.is_guess };
  name = [];
  said = [];
  above = setting.above;
}

-- what is told of a declaration, as a finding
abbrev pub told_remark : Setting → Told → Remark
told_remark setting told = record {
  finding = record { kind = told.kind; place = told.place; other = 0; is_guess = setting.is_guess };
  name = told.name;
  said = [];
  above = setting.above;
}

-- the place at which a line with this number begins
abbrev pub begins_at : ℕ → Place
begins_at number = record { line = number; column = 1 }

-- the place of the first character that is no white space
abbrev pub first_place : ℕ → List ℕ → Place
first_place number text = place_left (begins_at number) text (skip_white text)

-- a second declaration of a name, whose first one is on this line
abbrev pub twice : Setting → Place → Option ℕ → List Remark
twice setting place None = []
twice setting place (Some first) = found setting kind.DeclaredTwice place first ∷ []

-- what is found in a declaration of this key
abbrev pub declaration_remarks : Setting → Declared → ℕ → List ℕ → List ℕ → List Remark
declaration_remarks setting declared number text key =
    twice setting (first_place number text) (declared key)
    ++ map (told_remark setting)
    (line_marks (has_value setting.names declared) key setting.dialect (begins_at number) text)

-- what a load says of a line that fails like this, on one line, if that is told
abbrev pub said_of : Bool → Failure → List ℕ
said_of false failure = []
said_of true (LineParse text index) =
    on_one_line (chars (line_parse_text (encode_utf8_all text) index))
said_of true (Io kind) = []
said_of true (Nul key) = []
said_of true Memory = []

-- the fault of a line, as a finding, of which a load says this
abbrev pub fault_remarks : Setting → LineFault → List ℕ → List Remark
fault_remarks setting fault said =
    record (found setting fault.kind fault.place 0) { said = said } ∷ []

-- what is found in the text of a line with these entries
abbrev pub text_remarks : Setting → Declared → ℕ → List ℕ → List Entry → List Remark
text_remarks setting declared number text [] = []
text_remarks setting declared number text (Declares key pieces ∷ entries) =
    declaration_remarks setting declared number (trimmed text) (encode_utf8_all key)
text_remarks setting declared number text (Fails failure ∷ entries) =
    fault_remarks setting (closed_fault setting.dialect (begins_at number) (trimmed text))
    (said_of setting.tells_text failure)

-- what is found in a logical line with this number, whose last physical line is the last one given,
-- and which has these entries
abbrev pub logical_remarks : Setting → Declared → ℕ → ℕ → Logical → List Entry → List Remark
logical_remarks setting declared number last Skip entries = []
logical_remarks setting declared number last (HasText text) entries =
    text_remarks setting declared number text entries
logical_remarks setting declared number last (StaysOpen text index) entries =
    fault_remarks setting (open_line_fault (begins_at number) text)
    (said_of setting.tells_text (LineParse text index))
logical_remarks setting declared number last Broken entries =
    found setting kind.NotUtf8 (begins_at last) 0 ∷ []

-- the last physical line of a logical line
abbrev pub last_of : FileLine → ℕ
last_of line = line.number + line.count - 1

-- the names that are declared behind entries that are on this line
abbrev pub declared_by : ℕ → List Entry → Declared → Declared
declared_by number [] declared = declared
declared_by number (Declares key pieces ∷ entries) declared =
    declared_by number entries (with_key (encode_utf8_all key) number declared)
declared_by number (Fails failure ∷ entries) declared = declared_by number entries declared

-- the number of a line with these entries, if it may be a comment, or 0
abbrev pub bare_line : ℕ → List Entry → ℕ
bare_line number [] = number
bare_line number (entry ∷ entries) = 0

-- what was found so far, with what is found in a logical line with this number, whose last physical
-- line is the last one given, and which has these entries
abbrev pub with_logical : Setting → SoFar → ℕ → ℕ → Logical → List Entry → SoFar
with_logical setting so_far number last logical entries = record {
  remarks =
      so_far.remarks
      ++ logical_remarks (under so_far setting) so_far.declared number last logical entries;
  declared = declared_by number entries so_far.declared;
  above = bare_line number entries;
}

-- what was found so far, with what is found in one more line
abbrev pub with_line : Setting → SoFar → FileLine → SoFar
with_line setting so_far line =
    with_logical setting so_far line.number (last_of line) line.logical line.entries

-- what was found so far, with what is found in more lines
abbrev pub with_lines : Setting → SoFar → List FileLine → SoFar
with_lines setting so_far [] = so_far
with_lines setting so_far (line ∷ lines) =
    with_lines setting (with_line setting so_far line) lines

-- the physical line from which on a text is read as a guess
abbrev pub text_behind : Dialect → ℕ → List ℕ → List Entry → Option ℕ
text_behind dialect number text [] = None
text_behind dialect number text (Declares key pieces ∷ entries) = None
text_behind dialect number text (Fails failure ∷ entries) =
    (closed_fault dialect (begins_at number) (trimmed text)).behind

-- the physical line from which on a logical line is read as a guess
abbrev pub behind : Dialect → ℕ → Logical → List Entry → Option ℕ
behind dialect number Skip entries = None
behind dialect number (HasText text) entries = text_behind dialect number text entries
behind dialect number (StaysOpen text index) entries =
    (open_line_fault (begins_at number) text).behind
behind dialect number Broken entries = None

-- the text of a logical line
abbrev pub logical_text : Logical → List ℕ
logical_text Skip = []
logical_text (HasText text) = text
logical_text (StaysOpen text index) = text
logical_text Broken = []

-- the number of the next physical line; the largest one of 64 bits stays
abbrev pub next_number : ℕ → ℕ
next_number number = min (number + 1) (2 ^ 64 - 1)

-- what a walk makes of a text: a text up to its comment, or a text in which a quote stays open
abbrev pub walked_alone : List ℕ → Walk → Logical
walked_alone text (going mode) =
    if is_inside mode then StaysOpen text (byte_len text) else HasText text
walked_alone text (ended kept) = HasText kept

-- a physical line, read alone: a comment, or what a walk makes of it
abbrev pub guessed : List ℕ → Logical
guessed text =
    if begins_with hash (skip_leading_whitespace text) then Skip else
    walked_alone text (walk Outside [] text)

-- a physical line is passed by: it stands before this number, or a guess left a quote open, and it
-- begins no declaration
abbrev pub is_passed : ℕ → Bool → ℕ → List ℕ → Bool
is_passed from is_open number text =
    not (nat_le from number) || (is_open && not (begins_declaration text))

-- a guess leaves a quote open
abbrev pub leaves_open : Logical → Bool
leaves_open Skip = false
leaves_open (HasText text) = false
leaves_open (StaysOpen text index) = true
leaves_open Broken = false

-- a quote is open behind a physical line
abbrev pub open_behind : ℕ → Bool → ℕ → List ℕ → Bool
open_behind from is_open number text =
    if is_passed from is_open number text then is_open else leaves_open (guessed text)

-- a physical line is read as this guess, or as none, if it is passed by
abbrev pub IsGuess : Dialect → Bool → ℕ → List ℕ → List FileLine → Type 0
IsGuess dialect true number text lines = lines ≡ []
IsGuess dialect false number text lines =
    (entries : List Entry) × Gives dialect (guessed text) entries
    × (lines
    ≡ record { number = number; count = 1; logical = guessed text; entries = entries } ∷ [])

-- physical lines, given by their bytes, are read as these guesses, from this number on
abbrev pub AreGuesses : Dialect → ℕ → Bool → ℕ → List (List ℕ) → List FileLine → Type 0
AreGuesses dialect from is_open number [] lines = lines ≡ []
AreGuesses dialect from is_open number (text ∷ texts) lines =
    (own : List FileLine) × (later : List FileLine)
    × IsGuess dialect (is_passed from is_open number (chars text)) number (chars text) own
    × AreGuesses dialect from (open_behind from is_open number (chars text)) (next_number number)
    texts later
    × (lines ≡ own ++ later)

-- the bytes of a text, cut at each line feed
abbrev pub cut : List ℕ → List (List ℕ)
cut bytes = slice_split (λ b. b == line_feed) bytes

-- what stands behind a quote of this logical line that stays open is read as these guesses
abbrev pub GuessesFrom : Dialect → ℕ → Option ℕ → List ℕ → List FileLine → Type 0
GuessesFrom dialect number None text guesses = guesses ≡ []
GuessesFrom dialect number (Some from) text guesses =
    AreGuesses dialect from false number (cut (encode_utf8_all text)) guesses

-- a line, and the guesses after it
pub record Row : Type 0 where
  pub line : FileLine
  pub guesses : List FileLine

-- the lines of these rows
abbrev pub lines_of : List Row → List FileLine
lines_of rows = map (λ row. row.line) rows

-- the guesses are those of the line
abbrev pub IsRow : Dialect → Row → Type 0
IsRow dialect row =
    GuessesFrom dialect row.line.number
    (behind dialect row.line.number row.line.logical row.line.entries)
    (logical_text row.line.logical) row.guesses

-- the guesses of each of these are those of its line
abbrev pub AreRows : Dialect → List Row → Type 0
AreRows dialect [] = Unit {0}
AreRows dialect (row ∷ rows) = IsRow dialect row × AreRows dialect rows

-- the same setting for guesses
abbrev pub guessing : Setting → Setting
guessing setting = record setting { is_guess = true }

-- what was found so far, with what is found in one more line and in the guesses behind it
abbrev pub with_row : Setting → SoFar → Row → SoFar
with_row setting so_far row =
    with_lines (guessing setting) (with_line setting so_far row.line) row.guesses

-- what was found so far, with what is found in more of these
abbrev pub with_rows : Setting → SoFar → List Row → SoFar
with_rows setting so_far [] = so_far
with_rows setting so_far (row ∷ rows) = with_rows setting (with_row setting so_far row) rows

-- the finding, where a name that has no value yet is declared on this line, or on none
abbrev pub with_later : Option ℕ → Finding → Finding
with_later None finding = finding
with_later (Some line) finding = record finding { kind = kind.LaterName; other = line }

-- a name that has no value is found, and no other thing
abbrev pub is_unknown : Kind → Bool
is_unknown kind.UnknownName = true
is_unknown kind.UnknownBracedName = true
is_unknown k = false

-- what is found, where these names are declared in the whole file
abbrev pub resolved : Declared → Remark → Finding
resolved declared remark =
    if is_unknown remark.finding.kind then with_later (declared remark.name) remark.finding
    else remark.finding

-- what is told, where these names are declared in the whole file
abbrev pub settled : Declared → Remark → Remark
settled declared remark = record remark { finding = resolved declared remark }

-- the findings of all that was read of a file
abbrev pub findings_of : SoFar → List Finding
findings_of so_far = map (resolved so_far.declared) so_far.remarks

-- the findings of these lines of a file and of the guesses behind them
abbrev pub findings : Setting → List Row → List Finding
findings setting rows = findings_of (with_rows setting nothing_yet rows)

-- the kind of a line that is no text
abbrev pub is_broken : Kind → Bool
is_broken kind.NotUtf8 = true
is_broken k = false

-- the kind of a line that is no text, by what the file seems to be
abbrev pub broken_kind : Kind → Kind
broken_kind kind.Utf16 = kind.Utf16
broken_kind kind.Latin1 = kind.Latin1
broken_kind k = kind.NotUtf8

-- the bytes that are no text, from this line on
abbrev pub bad_from : ℕ → List BadByte → List BadByte
bad_from line [] = []
bad_from line (bad ∷ others) =
    if nat_lt bad.place.line line then bad_from line others else bad ∷ others

-- a finding, at the first of these bytes that are no text, if it is that of a line that is none,
-- and the byte is on that line
abbrev pub placed_one : List BadByte → Finding → Finding
placed_one [] finding = finding
placed_one (bad ∷ others) finding =
    if is_broken finding.kind && bad.place.line == finding.place.line
    then record finding { kind = broken_kind bad.hint; place = bad.place } else finding

-- a finding is an error: a fault, and no guess
abbrev pub is_error : Finding → Bool
is_error finding = is_fault finding.kind && not finding.is_guess

-- a finding is a warning that counts, where warnings do: no fault, and no guess
abbrev pub is_warning : Finding → Bool
is_warning finding = not (is_fault finding.kind) && not finding.is_guess

-- the kind is one of these
abbrev pub is_among : Kind → List Kind → Bool
is_among k [] = false
is_among k (first ∷ kinds) = kind_number first == kind_number k || is_among k kinds

-- a finding is a warning of a kind that is denied
abbrev pub is_denied : List Kind → Finding → Bool
is_denied denied finding = is_warning finding && is_among finding.kind denied

-- the comments that stand on this line or behind it
abbrev pub comments_from : ℕ → List Allow → List Allow
comments_from line [] = []
comments_from line (comment ∷ comments) =
    if nat_lt comment.line line then comments_from line comments else comment ∷ comments

-- the first of these comments stands on this line, and allows the kind
abbrev pub is_allowed_on : ℕ → Kind → List Allow → Bool
is_allowed_on line k [] = false
is_allowed_on line k (comment ∷ comments) = comment.line == line && is_among k comment.kinds

-- a finding is told, above whose line this one is: it is an error, or of no kind that is allowed, and
-- the comment on the line above, if that is the first of these, does not allow it
abbrev pub is_told : List Kind → List Allow → ℕ → Finding → Bool
is_told allowed comments above finding =
    is_error finding
    || not (is_among finding.kind allowed || is_allowed_on above finding.kind comments)

-- what is told of one of these, where these kinds are allowed, others by these comments, and these
-- bytes are no text
abbrev pub told_one : List Kind → List Allow → List BadByte → Remark → List Remark
told_one allowed comments bad remark =
    if is_told allowed comments remark.above remark.finding
    then record remark { finding = placed_one bad remark.finding } ∷ [] else []

-- this is told of these, where these kinds are allowed, and others by these comments; a line that
-- is no text may be told at a byte of it
abbrev pub AreTold : List Kind → List Allow → List Remark → List Remark → Type 0
AreTold allowed comments [] told = told ≡ []
AreTold allowed comments (remark ∷ remarks) told =
    (bad : List BadByte) × (others : List Remark)
    × AreTold allowed (comments_from remark.above comments) remarks others
    × (told
    ≡ told_one allowed (comments_from remark.above comments) bad remark ++ others)

-- all that was found in what was read of a file, where all names that it declares are known
abbrev pub settled_all : SoFar → List Remark
settled_all so_far = map (settled so_far.declared) so_far.remarks

-- the findings that are told
abbrev pub shown : List Remark → List Finding
shown told = map (λ remark. remark.finding) told
