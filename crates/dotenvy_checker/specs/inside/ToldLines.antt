-- What the code told of a file so far, and what of that is written.
use Rattle.std.specs.Prelude.{ℕ, ◌≡◌, ◌==◌, ◌≤◌, ◌++◌, ◌⊎◌, Bool, true, false, List, [], ◌∷◌, drop, length}
use Rattle.std.specs.Prelude.{map, nat_lt, Option, Some, None, Result, Ok, Err, if◌then◌else◌, string_bytes}
use Rattle.std.specs.List.{concat, AllByRecursion}
use Rattle.dotenvy_base.specs.declared.errors.Error.{Error}
use Rattle.dotenvy_base.specs.declared.errors.Error.TheVariants as error
use Rattle.dotenvy_base.specs.Output.{Sends, most_writes}
use Rattle.dotenvy_base.specs.Source.{Ahead, SinkTold}
use Rattle.dotenvy_findings.specs.Comments.{allow, Allow}
use Rattle.dotenvy_findings.specs.declared.bytes.BadByte.{BadByte}
use Rattle.dotenvy_findings.specs.declared.finding.Finding.{Finding}
use Rattle.dotenvy_findings.specs.declared.kind.Kind.{Kind}
use Rattle.dotenvy_reports.specs.Formats.{separator}
use Rattle.dotenvy_lines.specs.Lines.{LinesState}
use Rattle.dotenvy_checker.specs.declared.failure.Stop.{Stop}
use Rattle.dotenvy_checker.specs.declared.failure.Stop.TheVariants.{Read, Write, Memory}
use Rattle.dotenvy_checker.specs.declared.file_report.FileReport.{FileReport}
use Rattle.dotenvy_checker.specs.declared.lines.Checker.{Checker}
use Rattle.dotenvy_checker.specs.declared.lookup.Lookup.{Lookup}
use Rattle.dotenvy_checker.specs.declared.report.Found.{Found}
use Rattle.dotenvy_checker.specs.declared.report.LineAbove.{LineAbove}
use Rattle.dotenvy_checker.specs.declared.report.Reporting.{Reporting}
use Rattle.dotenvy_checker.specs.declared.watched.Seen.{Seen}
use Rattle.dotenvy_checker.specs.Checks.{both, found_in, AreFinal, ReadsLines}
use Rattle.dotenvy_checker.specs.Findings.{bad_from, comments_from, is_unknown, lines_of, resolved}
use Rattle.dotenvy_checker.specs.Findings.{settled, settled_all, shown, told_one, with_rows, AreRows}
use Rattle.dotenvy_checker.specs.Findings.{Declared, Remark, Row, SoFar}
use Rattle.dotenvy_checker.specs.Parts.{part_len, AreParts, SendsEach}
use Rattle.dotenvy_checker.specs.Report.{finding_text, report, said_text}
use Rattle.dotenvy_checker.specs.inside.CheckedLines.{allow_comments, bad_bytes, declared_of}
use Rattle.dotenvy_checker.specs.inside.CheckedLines.{setting_of, so_far}

-- the last line above a finding, and the kinds that a comment on it allows
abbrev pub above_of : {A : Type 0} → LineAbove A → Allow
above_of above = allow above.line above.kinds.items

-- the kinds that the first of these comments allows, if it is on this line
abbrev pub kinds_on : ℕ → List Allow → List Kind
kinds_on line [] = []
kinds_on line (comment ∷ comments) = if comment.line == line then comment.kinds else []

-- the last line above a finding, once one is found below this line: this one, and what the comment
-- on it allows, of those that were seen; a line that isn't after the last one changes nothing
abbrev pub next_above : ℕ → List Allow → Allow → Allow
next_above line seen last =
    if nat_lt last.line line then allow line (kinds_on line (comments_from line seen)) else last

-- nothing was looked up yet
pub record IsAtStart {A : Type 0} (lookup : Lookup A) : Type 0 where
  pub above : above_of lookup.above ≡ allow 0 []
  pub comments : lookup.comments_before ≡ 0
  pub bad : lookup.bad_before ≡ 0

-- the last line above a finding that was told or allowed
abbrev pub last_above : {A : Type 0} → FileReport A → Allow
last_above file_report = above_of file_report.lookup.above

-- this is told of these, from one last line above a finding to another: where these kinds are
-- allowed, and others by what was seen then in the bytes of the file
abbrev pub AreToldInTurn : List Kind → Allow → List Remark → List Remark → Allow → Type 0
AreToldInTurn allowed old [] told new = (told ≡ []) × (new ≡ old)
AreToldInTurn allowed old (remark ∷ remarks) told new =
    (seen : List Allow) × (bad : List BadByte) × (others : List Remark)
    × AreToldInTurn allowed (next_above remark.above seen old) remarks others new
    × (told
    ≡ told_one allowed (next_above remark.above seen old ∷ []) bad remark ++ others)

-- nothing is found
abbrev pub nothing_found : Found
nothing_found = record { faults = false; warnings = false; denied = false }

-- nothing is reported before what follows these
abbrev pub is_first_behind : List Remark → Bool → Bool
is_first_behind [] is_first = is_first
is_first_behind (remark ∷ remarks) is_first = false

-- how a file is reported, behind what was told
abbrev pub behind_told : List Remark → Reporting → Reporting
behind_told told how = record how { is_first = is_first_behind told how.is_first }

-- what is printed of a finding, and of what a load says of its line, behind what was reported
abbrev pub one_text : Reporting → List ℕ → Finding → List ℕ → List ℕ
one_text how file finding said =
    (if how.is_first then [] else separator how.format)
    ++ (finding_text how.format file finding ++ said_text how.format said)

-- the report of the file with this name, of which nothing is told yet
pub record IsUntold {A : Type 0} (file : List ℕ) (how : Reporting) (file_report : FileReport A)
    : Type 0 where
  pub file_is : file_report.file.now ≡ file
  pub how_is : file_report.how ≡ how
  pub nothing : file_report.found ≡ nothing_found
  pub empty : string_bytes file_report.text ≡ []
  pub start : last_above file_report ≡ allow 0 []

-- a finding is told, and what a load says of its line, but neither is counted nor written
pub record PushesOne {A : Type 0} (finding : Finding) (said : List ℕ) (old new : FileReport A)
    : Type 0 where
  pub file : new.file ≡ old.file
  pub how : new.how ≡ record old.how { is_first = false }
  pub found : new.found ≡ old.found
  pub lookup : new.lookup ≡ old.lookup
  pub text : string_bytes new.text
      ≡ string_bytes old.text ++ one_text old.how old.file.now finding said

-- nothing more is told, and nothing is written
pub record KeepsTold {A : Type 0} (old new : FileReport A) : Type 0 where
  pub file : new.file ≡ old.file
  pub how : new.how ≡ old.how
  pub found : new.found ≡ old.found
  pub text : string_bytes new.text ≡ string_bytes old.text

-- this is told, and nothing is written
pub record TellsMore {A : Type 0} (told : List Remark) (old new : FileReport A) : Type 0 where
  pub file : new.file ≡ old.file
  pub how : new.how ≡ behind_told told old.how
  pub found : new.found ≡ both old.found (found_in old.how.denied.now (shown told))
  pub text : string_bytes new.text
      ≡ string_bytes old.text ++ report old.how.format old.how.is_first old.file.now told

-- this remark is told, unless it is allowed, by what was seen in the bytes of the file
pub record TellsOne {A : Type 0} (remark : Remark) (seen : Seen A) (old new : FileReport A) : Type 0
  where
    pub moves : last_above new
        ≡ next_above remark.above (drop old.lookup.comments_before (allow_comments seen))
        (last_above old)
    pub tells : TellsMore
        (told_one old.how.allowed.now (last_above new ∷ [])
        (bad_from remark.finding.place.line (drop old.lookup.bad_before (bad_bytes seen))) remark)
        old new

-- a text is long enough for a part
abbrev pub IsLong : List ℕ → Type 0
IsLong text = part_len ≤ length text

-- this is told, and parts of the report are written, each long enough
pub record TellsParts {A W : Type 0} (told : W → SinkTold) (remarks : List Remark)
    (old : FileReport A) (before : W) (new : FileReport A) (after : W) : Type 0 where
  pub file : new.file ≡ old.file
  pub how : new.how ≡ behind_told remarks old.how
  pub found : new.found ≡ both old.found (found_in old.how.denied.now (shown remarks))
  pub parts : List (List ℕ)
  pub long : AllByRecursion IsLong parts
  pub cut : string_bytes old.text
      ++ report old.how.format old.how.is_first old.file.now remarks
      ≡ concat parts ++ string_bytes new.text
  pub sends : SendsEach {A = A} told before parts (Ok tt) after

-- this is told, and the last part of the report can't be written
pub record CannotWrite {A W : Type 0} (told : W → SinkTold) (remarks : List Remark)
    (old : FileReport A) (before : W) (e : Error A) (after : W) : Type 0 where
  pub parts : List (List ℕ)
  pub are : AreParts parts
  pub cut : string_bytes old.text
      ++ report old.how.format old.how.is_first old.file.now remarks ≡ concat parts
  pub sends : SendsEach told before parts (Err e) after

-- what was told is written, or it is kept; or it can't be written
abbrev pub WritesPart : {A W : Type 0} → (W → SinkTold) → FileReport A → W →
    Result (Unit {0}) (Stop A) → FileReport A → W → Type 0
WritesPart told old before (Ok done) new after = TellsParts told [] old before new after
WritesPart told old before (Err (Read e)) new after = ⊥
WritesPart told old before (Err (Write e)) new after = CannotWrite told [] old before e after
WritesPart told old before (Err (Memory refused)) new after = ⊥

-- reading ended because a part of the report could not be written
abbrev pub is_unwritten : {A : Type 0} → Result (Unit {0}) (Stop A) → Bool
is_unwritten (Ok done) = false
is_unwritten (Err (Read e)) = false
is_unwritten (Err (Write e)) = true
is_unwritten (Err (Memory refused)) = false

-- what is left of a report is sent, which then ends as reading did; or it can't be written
abbrev pub SendsRest : {A W : Type 0} → (W → SinkTold) → FileReport A → W →
    Result (Unit {0}) (Stop A) → Result (Unit {0}) (Stop A) → W → Type 0
SendsRest {A = A} told file_report before read result after =
    ((result ≡ read)
    × Sends {A = A} told most_writes before after (string_bytes file_report.text) (Ok tt))
    ⊎ ((e : Error A) × (result ≡ Err (Write e))
    × Sends told most_writes before after (string_bytes file_report.text) (Err e))

-- a report ends: what is left of it is sent, unless a part could not be written
abbrev pub EndsReport : {A W : Type 0} → (W → SinkTold) → FileReport A → W →
    Result (Unit {0}) (Stop A) → Result (Unit {0}) (Stop A) → W → Type 0
EndsReport told file_report before (Ok done) result after =
    SendsRest told file_report before (Ok tt) result after
EndsReport told file_report before (Err (Read e)) result after =
    SendsRest told file_report before (Err (Read e)) result after
EndsReport told file_report before (Err (Write e)) result after =
    (result ≡ Err (Write e)) × (after ≡ before)
EndsReport told file_report before (Err (Memory refused)) result after =
    SendsRest told file_report before (Err (Memory refused)) result after

-- what is found of a remark is settled, whatever is declared later
abbrev pub IsSettled : Declared → Remark → Type 0
IsSettled declared remark = is_unknown (resolved declared remark).kind ≡ false

-- this was told of what the checker kept, from one last line above a finding to another, and the
-- rest is kept; nothing else changes
pub record TellsFront {A : Type 0} (allowed : List Kind) (start end : Allow)
    (front remarks : List Remark) (old new : Checker A) : Type 0 where
  pub are : AreToldInTurn allowed start (map (settled (declared_of old.declared)) front) remarks end
  pub left : (so_far old).remarks ≡ front ++ (so_far new).remarks
  pub declared : declared_of new.declared ≡ declared_of old.declared
  pub above : new.above ≡ old.above
  pub names : new.names ≡ old.names
  pub dialect : new.dialect ≡ old.dialect
  pub tells : new.tells_text ≡ old.tells_text

-- this was told of what the checker kept, up to some place; each that was told passes a test
pub record TellsSome {A : Type 0} (passes : Remark → Type 0) (allowed : List Kind) (start : Allow)
    (remarks : List Remark) (old : Checker A) : Type 0 where
  pub front : List Remark
  pub later : List Remark
  pub end : Allow
  pub left : (so_far old).remarks ≡ front ++ later
  pub passed : AllByRecursion passes front
  pub are : AreToldInTurn allowed start (map (settled (declared_of old.declared)) front) remarks end

-- what the checker kept is told up to a place of which P holds, and parts are written; or a part
-- can't be written; or an allocation failed. Each that is told passes a test
abbrev pub TellsKept : {A W : Type 0} → (Remark → Type 0) → (Checker A → Type 0) → (W → SinkTold) →
    Checker A → FileReport A → W → Result (Unit {0}) (Stop A) → Checker A → FileReport A → W →
    Type 0
TellsKept passes P told old file_report before (Ok done) new after_report after =
    (front remarks : List Remark)
    × TellsFront file_report.how.allowed.now (last_above file_report) (last_above after_report)
    front remarks old new
    × AllByRecursion passes front × TellsParts told remarks file_report before after_report after
    × P new
TellsKept passes P told old file_report before (Err (Read e)) new after_report after = ⊥
TellsKept passes P told old file_report before (Err (Write e)) new after_report after =
    (remarks : List Remark)
    × TellsSome passes file_report.how.allowed.now (last_above file_report) remarks old
    × CannotWrite told remarks file_report before e after
TellsKept passes P told old file_report before (Err (Memory refused)) new after_report after =
    (remarks : List Remark)
    × TellsSome passes file_report.how.allowed.now (last_above file_report) remarks old
    × TellsParts told remarks file_report before after_report after

-- any finding
abbrev pub IsAny : Remark → Type 0
IsAny remark = Unit {0}

-- a checker may keep findings
abbrev pub KeepsAny : {A : Type 0} → Checker A → Type 0
KeepsAny checker = Unit {0}

-- a checker keeps no finding
abbrev pub KeepsNone : {A : Type 0} → Checker A → Type 0
KeepsNone checker = (so_far checker).remarks ≡ []

-- where rows lead a checker
abbrev pub led_by : {A : Type 0} → Checker A → List Row → SoFar
led_by checker rows = with_rows (setting_of checker false) (so_far checker) rows

-- this is told of the first findings of the rows of a
pub record TellsFirst {A : Type 0} (s : LinesState) (a : Ahead) (allowed : List Kind)
    (start : Allow) (remarks : List Remark) (old : Checker A) : Type 0 where
  pub rows : List Row
  pub are_rows : AreRows old.dialect rows
  pub front : List Remark
  pub later : List Remark
  pub cut : settled_all (led_by old rows) ≡ front ++ later
  pub final : AreFinal A old.dialect s a rows front
  pub end : Allow
  pub are : AreToldInTurn allowed start front remarks end

-- all that is found in the rows of a, up to this fault or the end, is told
pub record TellsRows {A : Type 0} (s : LinesState) (a : Ahead) (fault : Option (Error A))
    (allowed : List Kind) (start : Allow) (remarks : List Remark) (old new : Checker A) : Type 0
  where
    pub rows : List Row
    pub reads : ReadsLines old.dialect s a fault (lines_of rows)
    pub are_rows : AreRows old.dialect rows
    pub end : Allow
    pub are : AreToldInTurn allowed start (settled_all (led_by old rows)) remarks end
    pub declared : declared_of new.declared ≡ (led_by old rows).declared

-- the lines that are read of a, from s on, are checked, and what is found is told and written in
-- parts
abbrev pub TellsAll : {A W : Type 0} → (W → SinkTold) → LinesState → Ahead → Checker A →
    FileReport A → W → Result (Unit {0}) (Stop A) → Checker A → FileReport A → W → Type 0
TellsAll told s a old file_report before (Ok done) new after_report after =
    (remarks : List Remark)
    × TellsRows s a None file_report.how.allowed.now (last_above file_report) remarks old new
    × TellsParts told remarks file_report before after_report after
TellsAll told s a old file_report before (Err (Read e)) new after_report after =
    (remarks : List Remark)
    × TellsRows s a (Some e) file_report.how.allowed.now (last_above file_report) remarks old new
    × TellsParts told remarks file_report before after_report after
TellsAll told s a old file_report before (Err (Write e)) new after_report after =
    (remarks : List Remark)
    × TellsFirst s a file_report.how.allowed.now (last_above file_report) remarks old
    × CannotWrite told remarks file_report before e after
TellsAll told s a old file_report before (Err (Memory refused)) new after_report after =
    (remarks : List Remark)
    × TellsFirst s a file_report.how.allowed.now (last_above file_report) remarks old
    × TellsParts told remarks file_report before after_report after

-- with this told of what the checker kept, it has come to what is found in the rows that are read
-- of a, up to this fault or the end
pub record TellsSettled {A : Type 0} (s : LinesState) (a : Ahead) (fault : Option (Error A))
    (allowed : List Kind) (start end : Allow) (remarks : List Remark) (old new : Checker A) : Type 0
  where
    pub rows : List Row
    pub reads : ReadsLines old.dialect s a fault (lines_of rows)
    pub are_rows : AreRows old.dialect rows
    pub front : List Remark
    pub are : AreToldInTurn allowed start (map (settled (declared_of new.declared)) front) remarks
        end
    pub comes : record (so_far new) { remarks = front ++ (so_far new).remarks } ≡ led_by old rows

-- the lines that are read of a, from s on, are checked, and what is settled is told and written in
-- parts
abbrev pub TellsLines : {A W : Type 0} → (W → SinkTold) → LinesState → Ahead → Checker A →
    FileReport A → W → Result (Option (Error A)) (Stop A) → Checker A → FileReport A → W → Type 0
TellsLines told s a old file_report before (Ok fault) new after_report after =
    (remarks : List Remark)
    × TellsSettled s a fault file_report.how.allowed.now (last_above file_report)
    (last_above after_report) remarks old new
    × TellsParts told remarks file_report before after_report after
TellsLines told s a old file_report before (Err stop) new after_report after =
    TellsAll told s a old file_report before (Err stop) new after_report after

-- how a fault ends reading: it is given back, unless an allocation failed
abbrev pub end_of_reading : {A : Type 0} → Error A → Result (Option (Error A)) (Stop A)
end_of_reading (error.LineParse text index) = Ok (Some (error.LineParse text index))
end_of_reading (error.Io e) = Ok (Some (error.Io e))
end_of_reading (error.EnvVar e) = Ok (Some (error.EnvVar e))
end_of_reading (error.Nul key) = Ok (Some (error.Nul key))
end_of_reading (error.Memory refused) = Err (Memory refused)
