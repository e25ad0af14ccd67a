-- What the code finds on lines, and what it then knows.
use Rattle.std.specs.Prelude.{ℕ, ◌≡◌, ◌≢◌, Bool, true, false, List, [], ◌++◌, map, Option, Some, None}
use Rattle.std.specs.Prelude.{Result, Ok, Err, string_bytes, length, ◌+◌}
use denote.Ref.{Bor}
use Rattle.std.specs.Str.{chars}
use Rattle.dotenvy_base.specs.declared.errors.Error.{Error}
use Rattle.dotenvy_base.specs.declared.errors.Error.TheVariants as error
use Rattle.dotenvy_base.specs.Environment.{Env}
use Rattle.dotenvy_base.specs.Source.{Ahead}
use Rattle.dotenvy_format.specs.declared.dialect.Dialect.{Dialect}
use Rattle.dotenvy_format.specs.Characters.{byte_len}
use Rattle.dotenvy_format.specs.Entries.{Entry, Gives}
use Rattle.dotenvy_format.specs.LogicalLine.{Logical, Skip, HasText, StaysOpen, Broken}
use Rattle.dotenvy_lines.specs.declared.lines.Stage.TheVariants.{Failed}
use Rattle.dotenvy_lines.specs.Lines.{LinesState, WhereOpen}
use Rattle.dotenvy_lines.specs.Numbered.{FileLine}
use Rattle.dotenvy_lines.specs.inside.Splitter.{SplitterState, last_lines}
use Rattle.dotenvy_findings.specs.declared.bytes.BadByte.{BadByte}
use Rattle.dotenvy_findings.specs.Bytes as bytes
use Rattle.dotenvy_findings.specs.Comments as comments
use Rattle.dotenvy_findings.specs.Comments.{Allow}
use Rattle.dotenvy_findings.specs.Readings.{Known}
use Rattle.dotenvy_checker.specs.declared.declared.KnownNames.{KnownNames}
use Rattle.dotenvy_checker.specs.declared.lines.Checker.{Checker}
use Rattle.dotenvy_checker.specs.declared.lines.Numbered.{Numbered}
use Rattle.dotenvy_checker.specs.declared.lines.Part.{Part}
use Rattle.dotenvy_checker.specs.declared.lines.Part.TheVariants.{Text, Open}
use Rattle.dotenvy_checker.specs.declared.lines.Pending.{Pending}
use Rattle.dotenvy_checker.specs.declared.watched.Seen.{Seen}
use Rattle.dotenvy_checker.specs.Findings.{Declared, Remark, Setting, SoFar, behind, cut, has_value}
use Rattle.dotenvy_checker.specs.Findings.{under}
use Rattle.dotenvy_checker.specs.Findings.{logical_text, nothing_yet, with_lines, with_logical}
use Rattle.dotenvy_checker.specs.Findings.{AreGuesses, GuessesFrom, IsGuess}
use Rattle.dotenvy_checker.specs.Checks.{names_in, FewLines}
pub use Rattle.dotenvy_checker.specs.Checks.{declared_of}

-- the names that have a value
abbrev pub known_names : {A : Type 0} → KnownNames A → Known
known_names names = has_value (names_in names.env.now.names) (declared_of names.declared.now)

-- what the code keeps of a finding
abbrev pub remark_of : {A : Type 0} → Pending A → Remark
remark_of pending = record {
  finding = pending.finding;
  name = string_bytes pending.name;
  said = string_bytes pending.said;
  above = pending.above;
}

-- what was found so far
abbrev pub so_far : {A : Type 0} → Checker A → SoFar
so_far checker = record {
  remarks = map remark_of checker.pending.items;
  declared = declared_of checker.declared;
  above = checker.above;
}

-- the bytes that are no text, of those that were seen
abbrev pub bad_bytes : {A : Type 0} → Seen A → List BadByte
bad_bytes seen = (bytes.watch_of seen.bad).found

-- the comments that allow kinds, among the bytes that were seen
abbrev pub allow_comments : {A : Type 0} → Seen A → List Allow
allow_comments seen = (comments.watch_of seen.comments).found

-- how lines are checked: as lines of the file, or as guesses
abbrev pub setting_of : {A : Type 0} → Checker A → Bool → Setting
setting_of checker is_guess = record {
  names = names_in checker.names.env.now.names;
  dialect = checker.dialect;
  is_guess = is_guess;
  tells_text = checker.tells_text;
  above = 0;
}

-- how the next line is checked
abbrev pub setting_at : {A : Type 0} → Checker A → Bool → Setting
setting_at checker is_guess = under (so_far checker) (setting_of checker is_guess)

-- a checker under this environment and in this dialect, of a file of which nothing was read, and of
-- which the text is told or not
pub record IsNew {A : Type 0} (env : Env) (dialect : Dialect) (tells_text : Bool)
    (checker : Checker A) : Type 0 where
  pub environment : checker.names.env.now ≡ env
  pub in_dialect : checker.dialect ≡ dialect
  pub tells : checker.tells_text ≡ tells_text
  pub nothing : so_far checker ≡ nothing_yet

-- these are found, these names are declared then, and the last line is this one, if it may be a
-- comment, or 0; nothing else changes
pub record KeepsMore {A : Type 0} (remarks : List Remark) (declared : Declared) (above : ℕ)
    (old new : Checker A) : Type 0 where
  pub found : (so_far new).remarks ≡ (so_far old).remarks ++ remarks
  pub declares : declared_of new.declared ≡ declared
  pub stands : new.above ≡ above
  pub names : new.names ≡ old.names
  pub dialect : new.dialect ≡ old.dialect
  pub tells : new.tells_text ≡ old.tells_text

-- the checker came so far, and nothing else changes
pub record ComesTo {A : Type 0} (to : SoFar) (old new : Checker A) : Type 0 where
  pub comes : so_far new ≡ to
  pub names : new.names ≡ old.names
  pub dialect : new.dialect ≡ old.dialect
  pub tells : new.tells_text ≡ old.tells_text

-- the logical line that is a part
abbrev pub logical_of : Part → Logical
logical_of (Text text) = HasText (chars text.now)
logical_of (Open text) = StaysOpen (chars text.now) (byte_len (chars text.now))

-- a physical line that is read alone is a comment, or this part
abbrev pub GuessIs : Logical → Option Part → Type 0
GuessIs logical None = logical ≡ Skip
GuessIs logical (Some part) = logical ≡ logical_of part

-- the physical lines of what is left
abbrev pub pieces : Option (Bor (List ℕ)) → List (List ℕ)
pieces None = []
pieces (Some text) = cut text.now

-- one more than the length of what is left, if something is
abbrev pub left_len : Option (Bor (List ℕ)) → ℕ
left_len None = 0
left_len (Some text) = length text.now + 1

-- what is found in this logical line is kept, and this is the number of the physical line from which
-- on the rest of it is a guess
abbrev pub ChecksPart : {A : Type 0} → Numbered → ℕ → Logical → Option ℕ → Checker A → Checker A →
    Type 0
ChecksPart line last logical from old new =
    (entries : List Entry) × Gives old.dialect logical entries
    × (from ≡ behind old.dialect line.number logical entries)
    × ComesTo
    (with_logical (setting_of old line.is_guess) (so_far old) line.number last logical entries)
    old new

-- what is found in a physical line is kept, which is read as a guess, or passed by
abbrev pub ChecksGuess : {A : Type 0} → Bool → ℕ → List ℕ → Checker A → Checker A → Type 0
ChecksGuess is_passed number text old new =
    (guesses : List FileLine) × IsGuess old.dialect is_passed number text guesses
    × ComesTo (with_lines (setting_of old true) (so_far old) guesses) old new

-- what is found in physical lines is kept, which are read as guesses
abbrev pub ChecksGuesses : {A : Type 0} → ℕ → Bool → ℕ → List (List ℕ) → Checker A → Checker A →
    Type 0
ChecksGuesses from is_open number texts old new =
    (guesses : List FileLine) × AreGuesses old.dialect from is_open number texts guesses
    × ComesTo (with_lines (setting_of old true) (so_far old) guesses) old new

-- what is found in a logical line with this number is kept, whose last physical line is the last one
-- given, and what is found in the guesses behind it
abbrev pub ChecksWhole : {A : Type 0} → ℕ → ℕ → Logical → Checker A → Checker A → Type 0
ChecksWhole number last logical old new =
    (entries : List Entry) × (guesses : List FileLine) × Gives old.dialect logical entries
    × GuessesFrom old.dialect number (behind old.dialect number logical entries)
    (logical_text logical) guesses
    × ComesTo
    (with_lines (setting_of old true)
    (with_logical (setting_of old false) (so_far old) number last logical entries) guesses)
    old new

-- the logical line that stays open, or that is no text
abbrev pub failed_as : {A : Type 0} → Error A → Logical
failed_as (error.LineParse text index) =
    StaysOpen (chars (string_bytes text)) (byte_len (chars (string_bytes text)))
failed_as (error.Io e) = Broken
failed_as (error.EnvVar e) = Broken
failed_as (error.Nul key) = Broken
failed_as (error.Memory e) = Broken

-- the outcome of a line is checked, but no final fault
abbrev pub ChecksOutcome : {A : Type 0} → SplitterState → Result (Unit {0}) (Error A) → Checker A →
    Checker A → Type 0
ChecksOutcome lines (Ok done) old new =
    ChecksWhole (last_lines lines.lines).0 (last_lines lines.lines).1 (HasText (chars lines.line))
    old new
ChecksOutcome lines (Err e) old new =
    (lines.lines.stage ≢ Failed)
    × ChecksWhole (last_lines lines.lines).0 (last_lines lines.lines).1 (failed_as e) old new

-- P holds of what is told to be left of open lines, if their numbers fit 64 bits
abbrev pub WhereFew : LinesState → (Ahead → Type 0) → Type 0
WhereFew s P = WhereOpen s (λ a. FewLines s a → P a)
