-- The lines that a checker reads, one after another, and how its reading ends.
use Rattle.std.proofs.Common.{◌≡◌, ◌≢◌, ℕ, ◌+◌, ◌-◌, ◌<◌, ◌≤◌, ◌⊎◌, inl, inr, List, [], ◌∷◌, ◌++◌, length, Option}
use Rattle.std.proofs.Common.{Some, None, Result, Ok, Err, refl, sym, ap, ◌∙◌, string_bytes, Bool, true, false, arith}
use Rattle.std.proofs.Common.{map}
use Rattle.std.specs.Prelude.{◌^◌, IsErrAnd}
use Rattle.std.specs.List.{AllByRecursion}
use Rattle.std.specs.Str.{chars}
use Rattle.std.specs.declared.alloc.AllocError.{AllocError}
use Rattle.std.specs.declared.io.ErrorKind.TheVariants.{InvalidData}
use Rattle.std.proofs.Math.Nat.{lt_of_not-le}
use Rattle.std.proofs.lemmas.List.{append-nil, append_assoc, drop_all, length-drop, map-append}
use Rattle.std.proofs.lemmas.Str.{chars-nil}
use Rattle.dotenvy_base.specs.declared.errors.Error.{Error}
use Rattle.dotenvy_base.specs.declared.errors.Error.TheVariants as error
use Rattle.dotenvy_base.specs.Errors.{IsMemory}
use Rattle.dotenvy_base.specs.Environment.{Env}
use Rattle.dotenvy_base.specs.Source.{Ahead, SinkTold}
use Rattle.dotenvy_format.specs.declared.dialect.Dialect.{Dialect}
use Rattle.dotenvy_format.specs.Marks.{without_mark}
use Rattle.dotenvy_format.specs.Entries.{Entry, Fails, LineParse, Io, outcome_entries}
use Rattle.dotenvy_format.specs.LogicalLine.{Logical, Skip, HasText, StaysOpen, Broken, IsNext}
use Rattle.dotenvy_format.specs.Outcome.{Nothing}
use Rattle.dotenvy_format.proofs.lines.NextLine.{broken_within}
use Rattle.dotenvy_format.proofs.statements.Outcomes.{one_outcome}
use Rattle.dotenvy_lines.specs.declared.lines.Stage.TheVariants.{Open, Failed}
use Rattle.dotenvy_lines.specs.Input.{InputState, IsFinal, IsTold, DropsMark, begins_mark}
use Rattle.dotenvy_lines.specs.Lines.{LinesState, WhereOpen, whole_lines}
use Rattle.dotenvy_lines.specs.Numbered.{FileLine, HasNumbered, DecidesNumbered}
use Rattle.dotenvy_lines.specs.inside.NextLine.{AdvanceIs}
use Rattle.dotenvy_lines.specs.inside.Splitter.{SplitterState, last_lines}
use Rattle.dotenvy_lines.proofs.Inputs.{ahead_of, final_weaker}
use Rattle.dotenvy_lines.proofs.DroppedMarks.{Unmarks, unmarks, mark_decides, mark_incomplete, final_marked}
use Rattle.dotenvy_lines.proofs.LineEntries.{no_lines}
use Rattle.dotenvy_lines.proofs.LinesRead.{Read, TakesLine, Answers, file_line, read_none, read_more}
use Rattle.dotenvy_lines.proofs.LinesRead.{next_outcome, read_end, read_final}
use Rattle.dotenvy_findings.specs.Comments.{Allow}
use Rattle.dotenvy_findings.specs.declared.kind.Kind.{Kind}
use Rattle.dotenvy_items.specs.LoadStops.{unmarked}
use Rattle.dotenvy_items.proofs.NextItems.{goes_on_lines}
use Rattle.dotenvy_checker.specs.declared.file_report.FileReport.{FileReport}
use Rattle.dotenvy_checker.specs.declared.lines.Checker.{Checker}
use Rattle.dotenvy_checker.specs.declared.failure.Stop.{Stop}
use Rattle.dotenvy_checker.specs.declared.failure.Stop.TheVariants as stop
use Rattle.dotenvy_checker.specs.Checks.{file_setting, names_in, FewLines, IsMemoryStop, ReadsFirst, ReadsLines}
use Rattle.dotenvy_checker.specs.Findings.{Declared, Remark, Row, Setting, SoFar, behind, last_of, lines_of}
use Rattle.dotenvy_checker.specs.Findings.{logical_text, nothing_yet, settled, settled_all, with_lines, with_logical}
use Rattle.dotenvy_checker.specs.Findings.{with_rows}
use Rattle.dotenvy_checker.specs.Findings.{AreRows, GuessesFrom}
use Rattle.dotenvy_checker.specs.inside.CheckedLines.{declared_of, failed_as, setting_of, so_far, ChecksOutcome}
use Rattle.dotenvy_checker.specs.inside.CheckedLines.{ComesTo, IsNew, WhereFew}
use Rattle.dotenvy_checker.specs.inside.ToldLines.{end_of_reading, last_above, led_by, AreToldInTurn, IsAny, IsSettled}
use Rattle.dotenvy_checker.specs.inside.ToldLines.{KeepsAny, KeepsNone, KeepsTold, TellsAll, TellsFirst, TellsFront}
use Rattle.dotenvy_checker.specs.inside.ToldLines.{TellsKept, TellsLines, TellsParts, TellsRows, TellsSettled}
use Rattle.dotenvy_checker.specs.inside.ToldLines.{TellsSome}
use Rattle.dotenvy_checker.proofs.KeptLines.{with_rows-append}
use Rattle.dotenvy_checker.proofs.Settled.{all_known, all_settled, all_stay, behind_front, entries_extend}
use Rattle.dotenvy_checker.proofs.Settled.{lines_extend, row_behind, Extends}
use Rattle.dotenvy_checker.proofs.Told.{cannot-append, tells-append, told-append}
use Rattle.dotenvy_checker.proofs.ToldFronts.{all-append, tells_nothing}

-- what the checker kept, behind what was told of it, is what is found in these rows; nothing else changes
pub record ComesBehind {A : Type 0} (front : List Remark) (rows : List Row) (old new : Checker A) : Type 0 where
  pub comes : behind_front front (so_far new) ≡ led_by old rows
  pub names : new.names ≡ old.names
  pub dialect : new.dialect ≡ old.dialect
  pub tells : new.tells_text ≡ old.tells_text

-- of what is told at s some lines were read up to t, after a byte order mark, and checked, and this was told
pub record CheckedTo {A : Type 0} (a : Ahead) (s t : LinesState) (front : List Remark) (old new : Checker A)
    : Type 0 where
  pub start : LinesState
  pub unmarks : Unmarks a s start
  pub rows : List Row
  pub read : Read old.dialect (unmarked a) start (lines_of rows) t
  pub are_rows : AreRows old.dialect rows
  pub comes : ComesBehind front rows old new

-- the same, whatever is told; all that was told is settled, and its parts are written
pub record CheckedSoFar {A W : Type 0} (told : W → SinkTold) (s t : LinesState) (old : Checker A)
    (report : FileReport A) (writer : W) (now : Checker A) (later : FileReport A) (written : W) : Type 0 where
  pub front : List Remark
  pub remarks : List Remark
  pub are : AreToldInTurn report.how.allowed.now (last_above report) (map (settled (declared_of now.declared)) front)
      remarks (last_above later)
  pub settled_front : AllByRecursion (IsSettled (declared_of now.declared)) front
  pub parts : TellsParts told remarks report writer later written
  pub read : WhereFew s (λ a. CheckedTo a s t front old now)

-- rows, and then one more, are rows
rows_more : (dialect : Dialect) (rows : List Row) (row : Row) → AreRows dialect rows → AreRows dialect (row ∷ []) →
    AreRows dialect (rows ++ row ∷ [])
rows_more dialect [] row are is = is
rows_more dialect (first ∷ rows) row (own, are) is = (own, rows_more dialect rows row are is)

-- a checker that read no line yet has come to where the mark is dropped
pub checked_none : {A W : Type 0} (told : W → SinkTold) (s t : LinesState) (old : Checker A) (report : FileReport A)
    (writer : W) → (s.stage ≡ Open → t.stage ≡ s.stage) → t.lines_taken ≡ s.lines_taken →
    WhereOpen s (λ a. DropsMark {A = A} a s.input (Ok tt) t.input) →
    CheckedSoFar told s t old report writer old report writer
checked_none {A = A} told s t old report writer stage taken drops =
    record {
      front = [];
      remarks = [];
      are = (refl, refl);
      settled_front = tt;
      parts = tells_nothing told report writer;
      read = λ a opened is_told few.
          let dropped = unmarks A (stage opened ∙ opened) taken (drops a opened is_told) in record {
            start = t;
            unmarks = dropped;
            rows = [];
            read = read_none dropped.moves.is_left dropped.is_open;
            are_rows = tt;
            comes = record { comes = refl; names = refl; dialect = refl; tells = refl };
          };
    }

-- the next logical line is made of these physical lines
next_within : (lines : List (Option (List ℕ))) (count : ℕ) (next : Logical) → lines ≢ [] → IsNext lines count next →
    count ≤ length lines
next_within [] count next some is = absurd (some refl)
next_within (line ∷ lines) count Skip some is = let one = is.1 in omega (arith, one)
next_within (line ∷ lines) count (HasText kept) some is = let text = is.1 in text.within
next_within (line ∷ lines) count (StaysOpen text index) some is = let all = is.1 in omega (arith, all)
next_within (line ∷ lines) count Broken some is = broken_within (line ∷ lines) count is.1

-- where the numbers fit, a line has the number of the physical lines before it, and one, and its last physical line has
-- the number of all of them
line_numbers : {dialect : Dialect} {a : Ahead} {s t m : LinesState} {lines : List FileLine} {front : List Entry} →
    s.lines_taken + length (whole_lines a) < 2 ^ 64 → (k : Read dialect a s lines t) →
    (line : TakesLine dialect (ahead_of k.left a.fault) t front m) →
    ((last_lines m).0 ≡ s.lines_taken + 1 + k.count)
    × ((last_lines m).1 ≡ last_of (file_line (s.lines_taken + 1 + k.count) line))
line_numbers {a = a} {t = t} {m = m} few k line =
    let all = whole_lines a in
    let below : k.count < length all =
    lt_of_not-le (λ over. line.takes.some (k.begins.rest_is ∙ drop_all k.count all over)) in
    let left : length (whole_lines (ahead_of k.left a.fault)) ≡ length all - k.count =
    rw k.begins.rest_is (length-drop k.count all) in
    let within =
    next_within (whole_lines (ahead_of k.left a.fault)) line.count line.next line.takes.some line.takes.is_next in
    let taken = k.counts (omega (arith, few, below)) in
    let first : m.first_line ≡ t.lines_taken + 1 = line.counts.0 (omega (arith, few, below, taken)) in
    let last : m.lines_taken ≡ t.lines_taken + line.count =
    line.counts.1 (omega (arith, few, below, taken, within, left)) in
    rw (goes_on_lines m line.goes_on) (omega (arith, first, taken), omega (arith, last, taken))

-- a line was taken, and it and the guesses behind it are checked
record LineIs {A : Type 0} (dialect : Dialect) (a : Ahead) (t : LinesState) (number last : ℕ) (old new : Checker A)
    (m : LinesState) : Type 0 where
  pub front : List Entry
  pub line : TakesLine dialect a t front m
  pub guesses : List FileLine
  pub guessed : GuessesFrom dialect number (behind dialect number line.next front) (logical_text line.next) guesses
  pub comes : ComesTo (with_lines (setting_of old true) (with_logical (setting_of old false) (so_far old) number last
      line.next front) guesses) old new

-- a line whose outcome is checked was taken, and is checked
line_checked : {A : Type 0} (dialect : Dialect) (a : Ahead) (t : LinesState) (old new : Checker A) (m : SplitterState)
    (outcome : Result (Unit {0}) (Error A)) → old.dialect ≡ dialect → AdvanceIs a t (Some outcome) m.line m.lines →
    ChecksOutcome m outcome old new →
    LineIs dialect a t (last_lines m.lines).0 (last_lines m.lines).1 old new m.lines
line_checked dialect a t old new m (Ok done) same (inl (count, inl (empty, takes), counts, goes_on))
    (entries, guesses, (outcome, says, is), guessed, comes) =
    let nothing = one_outcome dialect [] outcome Nothing (rw (empty, chars-nil, same) at says) refl in
    let none : entries ≡ [] = is ∙ ap outcome_entries nothing in
    let no_guess : guesses ≡ [] = rw none at guessed in record {
      front = [];
      line =
          record { next = Skip; count = count; takes = takes; counts = counts; goes_on = goes_on; gives = refl };
      guesses = [];
      guessed = refl;
      comes = rw (none, no_guess) at comes;
    }
line_checked dialect a t old new m (Ok done) same (inl (count, inr takes, counts, goes_on))
    (entries, guesses, gives, guessed, comes) = record {
      front = entries;
      line = record {
        next = HasText (chars m.line);
        count = count;
        takes = takes;
        counts = counts;
        goes_on = goes_on;
        gives = rw same at gives;
      };
      guesses = guesses;
      guessed = rw same at guessed;
      comes = comes;
    }
line_checked dialect a t old new m (Ok done) same (inr fails) checks = absurd fails
line_checked dialect a t old new m (Err e) same (inr (failed, final)) (not_failed, checks) = absurd (not_failed failed)
line_checked dialect a t old new m (Err (error.LineParse text index)) same
    (inl (count, takes, counts, goes_on))
    (not_failed, (entries, guesses, gives, guessed, comes)) = record {
      front = Fails (LineParse (chars (string_bytes text)) index) ∷ [];
      line = record {
        next = StaysOpen (chars (string_bytes text)) index;
        count = count;
        takes = takes;
        counts = counts;
        goes_on = goes_on;
        gives = refl;
      };
      guesses = guesses;
      guessed = rw same at guessed;
      comes = rw (gives, ← takes.is_next.4) at comes;
    }
line_checked dialect a t old new m (Err (error.Io e)) same (inl (count, takes, counts, goes_on))
    (not_failed, (entries, guesses, gives, guessed, comes)) = record {
      front = Fails (Io InvalidData) ∷ [];
      line = record {
        next = Broken;
        count = count;
        takes = takes.1;
        counts = counts;
        goes_on = goes_on;
        gives = refl;
      };
      guesses = guesses;
      guessed = guessed;
      comes = rw gives at comes;
    }
line_checked dialect a t old new m (Err e) same (inl (count, takes, counts, goes_on)) checks = absurd takes

-- how lines are checked stays the same
settings : {A : Type 0} {front : List Remark} {rows : List Row} {old new : Checker A} (is_guess : Bool) →
    ComesBehind front rows old new → setting_of new is_guess ≡ setting_of old is_guess
settings is_guess k = rw (k.names, k.dialect, k.tells) refl

-- what is told of what is kept stands behind what was told
told_on : {A : Type 0} {a : Ahead} {s t : LinesState} {allowed : List Kind} {start end : Allow}
    {front more remarks : List Remark} {old now new : Checker A} → TellsFront allowed start end more remarks now new →
    CheckedTo a s t front old now →
    CheckedTo a s t (front ++ more) old new
told_on {front = front} {more} {now = now} {new} tells k =
    let found : (front ++ more) ++ (so_far new).remarks ≡ front ++ (so_far now).remarks =
    append_assoc front more (so_far new).remarks ∙ ap (λ (t : List Remark). front ++ t) (sym tells.left) in
    let same : behind_front (front ++ more) (so_far new) ≡ behind_front front (so_far now) =
    λ i. record { remarks = found i; declared = tells.declared i; above = tells.above i } in record {
      start = k.start;
      unmarks = k.unmarks;
      rows = k.rows;
      read = k.read;
      are_rows = k.are_rows;
      comes = record {
        comes = same ∙ k.comes.comes;
        names = tells.names ∙ k.comes.names;
        dialect = tells.dialect ∙ k.comes.dialect;
        tells = tells.tells ∙ k.comes.tells;
      };
    }

-- the names of a logical line, and of the guesses behind it, leave those that were declared on their lines
whole_extends : {A : Type 0} {now new : Checker A} (number last : ℕ) (logical : Logical) (entries : List Entry)
    (guesses : List FileLine) →
    ComesTo (with_lines (setting_of now true)
    (with_logical (setting_of now false) (so_far now) number last logical entries) guesses) now new →
    Extends (declared_of now.declared) (declared_of new.declared)
whole_extends {now = now} number last logical entries guesses comes = λ name first was.
    let own = with_logical (setting_of now false) (so_far now) number last logical entries in
    ap (λ (s : SoFar). s.declared name) comes.comes ∙ lines_extend (setting_of now true) own guesses name first
    (entries_extend number entries (declared_of now.declared) name first was)

-- the row of a line that was taken
abbrev row_of : {A : Type 0} {dialect : Dialect} {a : Ahead} {t m : LinesState} {number last : ℕ}
    {old new : Checker A} → ℕ →
    LineIs dialect a t number last old new m → Row
row_of number is = record { line = file_line number is.line; guesses = is.guesses }

-- what is found in a line and in the guesses behind it is the same from the same place on
same_row : {a b c d : Setting} {s t : SoFar} {n m l k : ℕ} (next : Logical) (front : List Entry)
    (guesses : List FileLine) → a ≡ b → c ≡ d → s ≡ t → n ≡ m → l ≡ k →
    with_lines a (with_logical c s n l next front) guesses ≡ with_lines b (with_logical d t m k next front) guesses
same_row next front guesses a c s n l = rw (a, c, s, n, l) refl

-- with one more line that was taken and checked a checker has come to what follows
line_read : {A : Type 0} {a : Ahead} {s t : LinesState} {front : List Remark} {old now new : Checker A}
    (m : LinesState) → FewLines s a → (k : CheckedTo a s t front old now) →
    LineIs old.dialect (ahead_of k.read.left a.fault) t (last_lines m).0 (last_lines m).1 now new m →
    CheckedTo a s m front old new
line_read {front = front} {old = old} {now} m few k is =
    let number = k.start.lines_taken + 1 + k.read.count in
    let row = row_of number is in
    let numbers = line_numbers (rw k.unmarks.taken few) k.read is.line in record {
      start = k.start;
      unmarks = k.unmarks;
      rows = k.rows ++ row ∷ [];
      read = rw map-append (read_more k.read is.line);
      are_rows = rows_more old.dialect k.rows row k.are_rows (rw numbers.0 at is.guessed, tt);
      comes = record {
        comes = ap (behind_front front) is.comes.comes
            ∙ row_behind (setting_of now true) (setting_of now false) front (so_far now) (last_lines m).0
            (last_lines m).1 is.line.next is.front is.guesses
            ∙ same_row is.line.next is.front is.guesses (settings true k.comes) (settings false k.comes) k.comes.comes
            numbers.0 numbers.1
            ∙ sym (with_rows-append (setting_of old false) (so_far old) k.rows (row ∷ []));
        names = is.comes.names ∙ k.comes.names;
        dialect = is.comes.dialect ∙ k.comes.dialect;
        tells = is.comes.tells ∙ k.comes.tells;
      };
    }

-- what a line that was checked adds to the names leaves those that were declared on their lines
outcome_extends : {A : Type 0} (m : SplitterState) (outcome : Result (Unit {0}) (Error A)) (now new : Checker A) →
    ChecksOutcome m outcome now new → Extends (declared_of now.declared) (declared_of new.declared)
outcome_extends m (Ok done) now new (entries, guesses, gives, guessed, comes) =
    whole_extends (last_lines m.lines).0 (last_lines m.lines).1 (HasText (chars m.line)) entries guesses comes
outcome_extends m (Err e) now new (not_failed, (entries, guesses, gives, guessed, comes)) =
    whole_extends (last_lines m.lines).0 (last_lines m.lines).1 (failed_as e) entries guesses comes

-- with one more line a checker has come to what follows
line_read_at : {A : Type 0} {a : Ahead} {s : LinesState} {front : List Remark} {old now new : Checker A}
    {p m : SplitterState} (outcome : Result (Unit {0}) (Error A)) → Answers p (Some outcome) m →
    ChecksOutcome m outcome now new → (k : CheckedTo a s p.lines front old now) → IsTold s.input.left a →
    FewLines s a → CheckedTo a s m.lines front old new
line_read_at {a = a} {old = old} {now} {new} {p} {m} outcome answers checks k is_told few =
    line_read m.lines few k
    (line_checked old.dialect (ahead_of k.read.left a.fault) p.lines now new m outcome k.comes.dialect
    (next_outcome (k.unmarks.moves.is_left, is_told.1) k.read answers) checks)

-- what was told, and what is told behind it, is told by the names that are declared now
told_both : {A W : Type 0} {told : W → SinkTold} {s t : LinesState} {old now : Checker A}
    {report later : FileReport A} {writer written : W} (new : Checker A) (more remarks : List Remark) (end : Allow)
    (came : CheckedSoFar told s t old report writer now later written) →
    AreToldInTurn later.how.allowed.now (last_above later) (map (settled (declared_of new.declared)) more) remarks end →
    Extends (declared_of now.declared) (declared_of new.declared) →
    AreToldInTurn report.how.allowed.now (last_above report)
    (map (settled (declared_of new.declared)) (came.front ++ more)) (came.remarks ++ remarks) end
told_both {now = now} {report = report} {later = later} new more remarks end came second extends =
    let before = declared_of now.declared in
    let after = declared_of new.declared in
    let stays = all_stay before after came.front extends came.settled_front in
    rw (map-append) (told-append report.how.allowed.now (last_above report) (last_above later) end
    (map (settled after) came.front) (map (settled after) more) came.remarks remarks (rw (← stays) at came.are)
    (rw (came.parts.how) at second))

-- so is all of it settled
settled_both : {A W : Type 0} {told : W → SinkTold} {s t : LinesState} {old now : Checker A}
    {report later : FileReport A} {writer written : W} (new : Checker A) (more : List Remark)
    (came : CheckedSoFar told s t old report writer now later written) →
    Extends (declared_of now.declared) (declared_of new.declared) →
    AllByRecursion (IsSettled (declared_of new.declared)) more →
    AllByRecursion (IsSettled (declared_of new.declared)) (came.front ++ more)
settled_both {now = now} new more came extends settled_more =
    let before = declared_of now.declared in
    let after = declared_of new.declared in
    all-append (IsSettled after) came.front more (all_settled before after came.front extends came.settled_front)
    settled_more

-- one more line leads a checker on, and what is then told of what it kept is told behind what was told
pub checked_more : {A W : Type 0} (told : W → SinkTold) {s : LinesState} {old now new end : Checker A}
    {report later last : FileReport A} {writer written at : W} {p m : SplitterState}
    (outcome : Result (Unit {0}) (Error A)) → CheckedSoFar told s p.lines old report writer now later written →
    Answers p (Some outcome) m → ChecksOutcome m outcome now new →
    TellsKept (IsSettled (declared_of new.declared)) KeepsAny told new later written (Ok tt) end last at →
    CheckedSoFar told s m.lines old report writer end last at
checked_more told {now = now} {new = new} {last = last} {m = m} outcome came answers checks
    (more, remarks, tells, settled_more, parts, kept) =
    let extends = outcome_extends m outcome now new checks in record {
      front = came.front ++ more;
      remarks = came.remarks ++ remarks;
      are = rw tells.declared (told_both new more remarks (last_above last) came tells.are extends);
      settled_front = rw tells.declared (settled_both new more came extends settled_more);
      parts = tells-append told came.parts parts;
      read = λ a opened is_told few.
          told_on tells (line_read_at outcome answers checks (came.read a opened is_told few) is_told few);
    }

-- where nothing is left, all lines were read
reads_all : {dialect : Dialect} {a : Ahead} {s t : LinesState} {lines : List FileLine}
    (k : Read dialect a s lines t) → k.left ≡ [] → a.fault ≡ None →
    HasNumbered dialect (s.lines_taken + 1) a.bytes lines
reads_all {a = a} k empty none = record {
  count = k.count;
  are = rw none at k.begins.are;
  all = rw none at (sym k.begins.rest_is ∙ no_lines a.fault k.left empty);
}

-- where no line is left, all lines were checked
pub checked_all : {A W : Type 0} (told : W → SinkTold) {s : LinesState} {old now : Checker A}
    {report later : FileReport A} {writer written : W} {p m : SplitterState} →
    CheckedSoFar told s p.lines old report writer now later written → Answers {A = A} p None m →
    WhereFew s (λ a. TellsLines told s a old report writer (Ok None) now later written)
checked_all told came answers a opened is_told few =
    let k = came.read a opened is_told few in
    let (empty, none, ended) = read_end (k.unmarks.moves.is_left, is_told.1) k.read answers in (
      came.remarks,
      record {
        rows = k.rows;
        reads = (none, rw k.unmarks.taken at (reads_all k.read empty none));
        are_rows = k.are_rows;
        front = came.front;
        are = came.are;
        comes = k.comes.comes;
      },
      came.parts,
    )

-- the lines that are decided before a fault of reading
abbrev DecidedBefore : Dialect → ℕ → List FileLine → List ℕ → Type 0
DecidedBefore dialect taken lines bytes = DecidesNumbered dialect (taken + 1) (without_mark bytes) lines

-- a final fault is that of the reader, before which the lines that were checked are decided; or memory was refused
reads_end : {A : Type 0} (dialect : Dialect) (lines : List FileLine) (a : Ahead) (s : LinesState) (m : InputState)
    (e : Error A) → IsFinal a s.input (DecidedBefore dialect s.lines_taken lines) e m →
    IsMemory e ⊎ ReadsLines dialect s a (Some e) lines
reads_end dialect lines a s m e (inl memory) = inl memory
reads_end dialect lines a s m e (inr io) = inr (m, io)

-- these are the first lines that are read
reads_first : {A : Type 0} {a : Ahead} {s t : LinesState} {front : List Remark} {old now : Checker A}
    (k : CheckedTo a s t front old now) → ReadsFirst old.dialect s a (lines_of k.rows)
reads_first k = (k.read.count, rw k.unmarks.taken at k.read.begins.are)

-- what was told of a settled front of what was kept is told of the first findings
tells_first : {A : Type 0} {a : Ahead} {s t : LinesState} {allowed : List Kind} {start : Allow}
    {remarks : List Remark} {old now : Checker A} (front more later : List Remark) (end : Allow) →
    (so_far now).remarks ≡ more ++ later →
    AreToldInTurn allowed start (map (settled (declared_of now.declared)) (front ++ more)) remarks end →
    AllByRecursion (IsSettled (declared_of now.declared)) (front ++ more) → CheckedTo a s t front old now →
    TellsFirst s a allowed start remarks old
tells_first {old = old} {now = now} front more later end left are settled_front k =
    let all = led_by old k.rows in
    let names = declared_of now.declared in
    let declared : all.declared ≡ names = ap (λ (s : SoFar). s.declared) (sym k.comes.comes) in
    let remarks : all.remarks ≡ (front ++ more) ++ later =
    ap (λ (s : SoFar). s.remarks) (sym k.comes.comes) ∙ ap (λ (t : List Remark). front ++ t) left
    ∙ sym (append_assoc front more later) in record {
      rows = k.rows;
      are_rows = k.are_rows;
      front = map (settled names) (front ++ more);
      later = map (settled names) later;
      cut = ap (λ (d : Declared). map (settled d) all.remarks) declared
          ∙ ap (λ (t : List Remark). map (settled names) t) remarks ∙ map-append (settled names) (front ++ more) later;
      final = inl (reads_first k, all_known names (front ++ more) settled_front);
      end = end;
      are = are;
    }

-- the same of what was told so far
tells_so_far : {A W : Type 0} {told : W → SinkTold} {a : Ahead} {s t : LinesState} {old now : Checker A}
    {report later : FileReport A} {writer written : W}
    (came : CheckedSoFar told s t old report writer now later written) → CheckedTo a s t came.front old now →
    TellsFirst s a report.how.allowed.now (last_above report) came.remarks old
tells_so_far {now = now} {report = report} {later = later} came k =
    let names = declared_of now.declared in
    let all = append-nil came.front in
    let are : AreToldInTurn report.how.allowed.now (last_above report) (map (settled names) (came.front ++ []))
    came.remarks (last_above later) = rw all came.are in
    let settled_front : AllByRecursion (IsSettled names) (came.front ++ []) = rw all came.settled_front in
    tells_first came.front [] (so_far now).remarks (last_above later) refl are settled_front k

-- reading ends where memory is refused, with what was told
ends_memory : {A W : Type 0} (told : W → SinkTold) {a : Ahead} {s : LinesState} {old : Checker A}
    {report later : FileReport A} {writer written : W} {remarks : List Remark} (new : Checker A) (e : Error A) →
    IsMemory e → TellsFirst s a report.how.allowed.now (last_above report) remarks old →
    TellsParts told remarks report writer later written →
    TellsLines told s a old report writer (end_of_reading e) new later written
ends_memory told {remarks = remarks} new (error.Memory refused) is first parts = (remarks, first, parts)
ends_memory told new e is first parts = absurd is

-- reading ends with a fault of the reader, with what was told
ends_fault : {A W : Type 0} (told : W → SinkTold) {a : Ahead} {s : LinesState} {old now : Checker A}
    {report later : FileReport A} {writer written : W} {remarks : List Remark} (e : Error A) →
    TellsSettled s a (Some e) report.how.allowed.now (last_above report) (last_above later) remarks old now →
    TellsParts told remarks report writer later written →
    TellsLines told s a old report writer (end_of_reading e) now later written
ends_fault told {remarks = remarks} (error.Memory refused) tells parts = absurd tells.reads.1
ends_fault told {remarks = remarks} (error.LineParse text index) tells parts = (remarks, tells, parts)
ends_fault told {remarks = remarks} (error.Io e) tells parts = (remarks, tells, parts)
ends_fault told {remarks = remarks} (error.EnvVar e) tells parts = (remarks, tells, parts)
ends_fault told {remarks = remarks} (error.Nul key) tells parts = (remarks, tells, parts)

-- a fault, before which these lines are decided, ends reading
ends_reading : {A W : Type 0} (told : W → SinkTold) {a : Ahead} {s t : LinesState} {old now : Checker A}
    {report later : FileReport A} {writer written : W} (e : Error A)
    (came : CheckedSoFar told s t old report writer now later written) → (k : CheckedTo a s t came.front old now) →
    IsMemory e ⊎ ReadsLines old.dialect s a (Some e) (lines_of k.rows) →
    TellsLines told s a old report writer (end_of_reading e) now later written
ends_reading told {now = now} e came k (inl memory) = ends_memory told now e memory (tells_so_far came k) came.parts
ends_reading told e came k (inr reads) = ends_fault told e (record {
  rows = k.rows;
  reads = reads;
  are_rows = k.are_rows;
  front = came.front;
  are = came.are;
  comes = k.comes.comes;
}) came.parts

-- a final fault that is given back ends reading; or memory was refused
pub checked_before : {A W : Type 0} (told : W → SinkTold) {s : LinesState} {old now new : Checker A}
    {report later : FileReport A} {writer written : W} {p m : SplitterState}
    {outcome : Result (Unit {0}) (Error A)} (e : Error A) →
    CheckedSoFar told s p.lines old report writer now later written → Answers p (Some outcome) m →
    IsMemory e ⊎ ((outcome ≡ Err e) × (m.lines.stage ≡ Failed) × (new ≡ now)) →
    WhereFew s (λ a. TellsLines told s a old report writer (end_of_reading e) new later written)
checked_before told {new = new} e came answers (inl refused) a opened is_told few =
    ends_memory told new e refused (tells_so_far came (came.read a opened is_told few)) came.parts
checked_before told {s = s} {old = old} {m = m} e came answers (inr (is, failed, same)) a opened is_told few =
    let k = came.read a opened is_told few in
    rw same (elim (rw is at (next_outcome (k.unmarks.moves.is_left, is_told.1) k.read answers)) [
      | inl (count, takes, counts, inl is_open) ↦ cc
      | inl (count, takes, counts, inr (ended, nothing)) ↦ cc
      | inr (stage, final) ↦
          let number = k.start.lines_taken + 1 in
          let decides = final_marked (λ bytes. DecidesNumbered old.dialect number bytes (lines_of k.rows)) e
          m.lines.input k.unmarks (read_final k.read e m.lines.input final) in
          ends_reading told e came k
          (reads_end old.dialect (lines_of k.rows) a s m.lines.input e (rw k.unmarks.taken at decides))
    ])

-- what was told up to some place of what a line left is told of the first findings
tells_line : {A W : Type 0} {told : W → SinkTold} {a : Ahead} {s : LinesState} {old now new : Checker A}
    {report later : FileReport A} {writer written : W} {p m : SplitterState} {remarks : List Remark}
    (outcome : Result (Unit {0}) (Error A)) (came : CheckedSoFar told s p.lines old report writer now later written) →
    Answers p (Some outcome) m → ChecksOutcome m outcome now new →
    TellsSome (IsSettled (declared_of new.declared)) later.how.allowed.now (last_above later) remarks new →
    CheckedTo a s p.lines came.front old now → IsTold s.input.left a → FewLines s a →
    TellsFirst s a report.how.allowed.now (last_above report) (came.remarks ++ remarks) old
tells_line {now = now} {new = new} {m = m} {remarks = remarks} outcome came answers checks k to is_told few =
    let extends = outcome_extends m outcome now new checks in
    tells_first came.front k.front k.later k.end k.left (told_both new k.front remarks k.end came k.are extends)
    (settled_both new k.front came extends k.passed) (line_read_at outcome answers checks to is_told few)

-- a stop while what was kept is told: a part can't be written, or memory was refused
pub checked_stop : {A W : Type 0} (told : W → SinkTold) {s : LinesState} {old now : Checker A}
    {report later : FileReport A} {writer written : W} {p m : SplitterState} (new end : Checker A)
    (last : FileReport A) (at : W) (outcome : Result (Unit {0}) (Error A)) (ending : Stop A) →
    CheckedSoFar told s p.lines old report writer now later written → Answers p (Some outcome) m →
    ChecksOutcome m outcome now new →
    TellsKept (IsSettled (declared_of new.declared)) KeepsAny told new later written (Err ending) end last at →
    WhereFew s (λ a. TellsAll told s a old report writer (Err ending) end last at)
checked_stop told new end last at outcome (stop.Read e) came answers checks tells a opened is_told few = absurd tells
checked_stop told new end last at outcome (stop.Write e) came answers checks (remarks, tells, cannot) a opened is_told
    few = (
      came.remarks ++ remarks,
      tells_line outcome came answers checks tells (came.read a opened is_told few) is_told few,
      cannot-append told came.parts cannot,
    )
checked_stop told new end last at outcome (stop.Memory refused) came answers checks (remarks, tells, parts) a opened
    is_told few = (
      came.remarks ++ remarks,
      tells_line outcome came answers checks tells (came.read a opened is_told few) is_told few,
      tells-append told came.parts parts,
    )

-- nothing is told of what is kept
tells_none : {A : Type 0} (passes : Remark → Type 0) (allowed : List Kind) (last : Allow) (checker : Checker A) →
    TellsSome passes allowed last [] checker
tells_none passes allowed last checker = record {
  front = [];
  later = (so_far checker).remarks;
  end = last;
  left = refl;
  passed = tt;
  are = (refl, refl);
}

-- memory for what was seen was refused, where a line was checked and nothing of it is told yet
pub checked_unseen : {A W : Type 0} (told : W → SinkTold) {s : LinesState} {old now : Checker A}
    {report later : FileReport A} {writer written : W} {p m : SplitterState} (new : Checker A)
    (outcome : Result (Unit {0}) (Error A)) (refused : AllocError) →
    CheckedSoFar told s p.lines old report writer now later written → Answers p (Some outcome) m →
    ChecksOutcome m outcome now new →
    WhereFew s (λ a. TellsAll told s a old report writer (Err (stop.Memory refused)) new later written)
checked_unseen told {later = later} new outcome refused came answers checks a opened is_told few = (
  came.remarks ++ [],
  tells_line {remarks = []} outcome came answers checks
      (tells_none (IsSettled (declared_of new.declared)) later.how.allowed.now (last_above later) new)
      (came.read a opened is_told few) is_told few,
  rw (append-nil came.remarks) came.parts,
)

-- the same of a result that says that memory was refused
pub unseen_told : {A W : Type 0} (told : W → SinkTold) {s : LinesState} {old now : Checker A}
    {report later : FileReport A} {writer written : W} {p m : SplitterState} (new : Checker A)
    (outcome : Result (Unit {0}) (Error A)) (result : Result (Option (Error A)) (Stop A)) →
    IsErrAnd result IsMemoryStop → CheckedSoFar told s p.lines old report writer now later written →
    Answers p (Some outcome) m → ChecksOutcome m outcome now new →
    WhereFew s (λ a. TellsLines told s a old report writer result new later written)
unseen_told told new outcome (Ok fault) stops came answers checks = absurd stops
unseen_told told new outcome (Err (stop.Read e)) stops came answers checks = absurd stops
unseen_told told new outcome (Err (stop.Write e)) stops came answers checks = absurd stops
unseen_told told new outcome (Err (stop.Memory refused)) stops came answers checks =
    checked_unseen told new outcome refused came answers checks

-- a fault before a byte order mark is decided ends a check of nothing
pub checked_mark : {A W : Type 0} (told : W → SinkTold) (a : Ahead) (s m : LinesState) (old : Checker A)
    (report : FileReport A) (writer : W) (e : Error A) → DropsMark a s.input (Err e) m.input →
    TellsLines told s a old report writer (end_of_reading e) old report writer
checked_mark told a s m old report writer e drops =
    let nothing = tells_nothing told report writer in
    let decides = reads_end old.dialect [] a s m.input e (final_weaker a s.input m.input
    (λ bytes. begins_mark bytes ≡ true) (DecidedBefore old.dialect s.lines_taken []) e
    (λ bytes begins. record {
      count = 0;
      are = refl;
      rest = mark_incomplete bytes begins;
      decided = mark_decides old.dialect bytes begins;
    }) drops) in
    elim decides [
      | inl memory ↦ ends_memory told old e memory (record {
        rows = [];
        are_rows = tt;
        front = [];
        later = settled_all (so_far old);
        cut = refl;
        final = inl ((0, refl), tt);
        end = last_above report;
        are = (refl, refl);
      }) nothing
      | inr reads ↦ ends_fault told e (record {
        rows = [];
        reads = reads;
        are_rows = tt;
        front = [];
        are = (refl, refl);
        comes = refl;
      }) nothing
    ]

-- what was told of rows that are all that is read, and up to some place of the rest, is told of the first findings
rest_first : {A : Type 0} {a : Ahead} {s : LinesState} {fault : Option (Error A)} {allowed : List Kind}
    {start middle : Allow} {remarks others : List Remark} {old now : Checker A} →
    TellsSettled s a fault allowed start middle remarks old now → TellsSome IsAny allowed middle others now →
    TellsFirst s a allowed start (remarks ++ others) old
rest_first {fault = fault} {allowed = allowed} {start} {middle} {remarks} {others} {old} {now} h k =
    let all = led_by old h.rows in
    let names = declared_of now.declared in
    let declared : all.declared ≡ names = ap (λ (s : SoFar). s.declared) (sym h.comes) in
    let found : all.remarks ≡ (h.front ++ k.front) ++ k.later =
    ap (λ (s : SoFar). s.remarks) (sym h.comes) ∙ ap (λ (t : List Remark). h.front ++ t) k.left
    ∙ sym (append_assoc h.front k.front k.later) in record {
      rows = h.rows;
      are_rows = h.are_rows;
      front = map (settled names) (h.front ++ k.front);
      later = map (settled names) k.later;
      cut = ap (λ (d : Declared). map (settled d) all.remarks) declared
          ∙ ap (λ (t : List Remark). map (settled names) t) found
          ∙ map-append (settled names) (h.front ++ k.front) k.later;
      final = inr (fault, h.reads);
      end = k.end;
      are = rw map-append (told-append allowed start middle k.end (map (settled names) h.front)
          (map (settled names) k.front) remarks others h.are k.are);
    }

-- what was told of rows that are all that is read, and all of the rest, is told of all that is found
rest_rows : {A : Type 0} {a : Ahead} {s : LinesState} {fault : Option (Error A)} {allowed : List Kind}
    {start middle end : Allow} {front remarks others : List Remark} {old now new : Checker A} →
    TellsSettled s a fault allowed start middle remarks old now → TellsFront allowed middle end front others now new →
    (so_far new).remarks ≡ [] → TellsRows s a fault allowed start (remarks ++ others) old new
rest_rows {allowed = allowed} {start} {middle} {end} {front} {remarks} {others} {old} {now} {new} h k none =
    let all = led_by old h.rows in
    let names = declared_of now.declared in
    let declared : all.declared ≡ names = ap (λ (s : SoFar). s.declared) (sym h.comes) in
    let found : all.remarks ≡ h.front ++ front =
    ap (λ (s : SoFar). s.remarks) (sym h.comes)
    ∙ ap (λ (t : List Remark). h.front ++ t) (k.left ∙ ap (λ (t : List Remark). front ++ t) none ∙ append-nil front) in
    let is : settled_all all ≡ map (settled names) h.front ++ map (settled names) front =
    ap (λ (d : Declared). map (settled d) all.remarks) declared
    ∙ ap (λ (t : List Remark). map (settled names) t) found ∙ map-append (settled names) h.front front in record {
      rows = h.rows;
      reads = h.reads;
      are_rows = h.are_rows;
      end = end;
      are = rw is (told-append allowed start middle end (map (settled names) h.front) (map (settled names) front)
          remarks others h.are k.are);
      declared = k.declared ∙ sym declared;
    }

-- the result of a check whose reading ended like this
abbrev pub end_result : {A : Type 0} → Option (Error A) → Result (Unit {0}) (Stop A)
end_result None = Ok tt
end_result (Some fault) = Err (stop.Read fault)

-- all lines were read and checked, and what was left is told
pub checked_rest : {A W : Type 0} (told : W → SinkTold) {s : LinesState} {a : Ahead} {old now new : Checker A}
    {report later last : FileReport A} {writer written end : W} (fault : Option (Error A)) →
    TellsLines told s a old report writer (Ok fault) now later written →
    TellsKept IsAny KeepsNone told now later written (Ok tt) new last end →
    TellsAll told s a old report writer (end_result fault) new last end
checked_rest told None (remarks, h, parts) (front, others, k, any, more, none) =
    (remarks ++ others, rest_rows h (rw parts.how at k) none, tells-append told parts more)
checked_rest told (Some fault) (remarks, h, parts) (front, others, k, any, more, none) =
    (remarks ++ others, rest_rows h (rw parts.how at k) none, tells-append told parts more)

-- all lines were read and checked, and of what was left some is told
pub checked_rest_stop : {A W : Type 0} (told : W → SinkTold) {s : LinesState} {a : Ahead} {old now : Checker A}
    {report later : FileReport A} {writer written : W} (new : Checker A) (last : FileReport A) (end : W)
    (fault : Option (Error A)) (ending : Stop A) →
    TellsLines told s a old report writer (Ok fault) now later written →
    TellsKept IsAny KeepsNone told now later written (Err ending) new last end →
    TellsAll told s a old report writer (Err ending) new last end
checked_rest_stop told new last end fault (stop.Read e) lines kept = absurd kept
checked_rest_stop told new last end fault (stop.Write e) (remarks, h, parts) (others, k, cannot) =
    (remarks ++ others, rest_first h (rw parts.how at k), cannot-append told parts cannot)
checked_rest_stop told new last end fault (stop.Memory refused) (remarks, h, parts) (others, k, more) =
    (remarks ++ others, rest_first h (rw parts.how at k), tells-append told parts more)

-- all lines were read and checked, and memory for what was seen was refused
pub checked_rest_unseen : {A W : Type 0} (told : W → SinkTold) {s : LinesState} {a : Ahead} {old now : Checker A}
    {report later : FileReport A} {writer written : W} (fault : Option (Error A))
    (result : Result (Unit {0}) (Stop A)) → IsErrAnd result IsMemoryStop →
    TellsLines told s a old report writer (Ok fault) now later written →
    TellsAll told s a old report writer result now later written
checked_rest_unseen told fault (Ok done) stops lines = absurd stops
checked_rest_unseen told fault (Err (stop.Read e)) stops lines = absurd stops
checked_rest_unseen told fault (Err (stop.Write e)) stops lines = absurd stops
checked_rest_unseen told {now = now} {report = report} {later = later} fault (Err (stop.Memory refused)) stops
    (remarks, h, parts) = (
      remarks ++ [],
      rest_first {others = []} h (tells_none IsAny report.how.allowed.now (last_above later) now),
      rw (append-nil remarks) parts,
    )

-- nothing is told where a report stays as it is
keeps_same : {A : Type 0} {old new : FileReport A} → new ≡ old → KeepsTold old new
keeps_same {A = A} same = record {
  file = ap (λ (r : FileReport A). r.file) same;
  how = ap (λ (r : FileReport A). r.how) same;
  found = ap (λ (r : FileReport A). r.found) same;
  text = ap (λ (r : FileReport A). string_bytes r.text) same;
}

-- nothing is told, and no name is declared, where no line was read and nothing was kept
pub shut_rest : {A W : Type 0} (told : W → SinkTold) {old now new : Checker A} {report later last : FileReport A}
    {writer end : W} → now ≡ old → later ≡ report → last ≡ later →
    TellsKept IsAny KeepsNone told now later writer (Ok tt) new last end →
    KeepsTold report last × (declared_of new.declared ≡ declared_of old.declared)
shut_rest {A = A} told checker before after (front, remarks, k, any, parts, kept) =
    (keeps_same (after ∙ before), k.declared ∙ ap (λ (c : Checker A). declared_of c.declared) checker)

-- what is found in rows is the same from the same place on
same_rows : {a b : Setting} {s t : SoFar} (rows : List Row) → a ≡ b → s ≡ t → with_rows a s rows ≡ with_rows b t rows
same_rows rows a s = rw (a, s) refl

-- a new checker is led by rows to what is found in them
pub led_new : {A : Type 0} {env : Env} {dialect given : Dialect} {tells : Bool} {checker : Checker A}
    (rows : List Row) → IsNew env given tells checker → given ≡ dialect →
    led_by checker rows ≡ with_rows (file_setting (names_in env.names) dialect tells) nothing_yet rows
led_new {env = env} {dialect} {tells = tells} {checker} rows made in_dialect =
    let setting : setting_of checker false ≡ file_setting (names_in env.names) dialect tells =
    rw (made.environment, made.in_dialect, in_dialect, made.tells) refl in
    same_rows rows setting made.nothing

-- a checker that stays as it was new has found nothing
pub nothing_found : {A : Type 0} {env : Env} {dialect : Dialect} {tells : Bool} {old new : Checker A} →
    IsNew env dialect tells old → new ≡ old → so_far new ≡ nothing_yet
nothing_found made same = ap so_far same ∙ made.nothing
