-- Worked files.
use Rattle.dotenvy_format.proofs.lines.DecidedFront.{decided_of, decided_of-are}
use Rattle.std.proofs.Common.{◌≡◌, ℕ, List, refl}
use Rattle.std.specs.Str.{is_utf8, chars}
use Rattle.unicode.proofs.DerivedComputing.{ucd_derived}
use Rattle.unicode.proofs.CategoryComputing.{ucd_category}
use Rattle.std.proofs.Math.Utf8.{encode}
use Rattle.dotenvy_format.specs.declared.dialect.Dialect.{Dialect}
use Rattle.dotenvy_format.specs.Characters.{is_name_character}
use Rattle.dotenvy_format.specs.PhysicalLines.{line_texts}
use Rattle.dotenvy_format.specs.Entries.{Entry, HasEntries}
use Rattle.dotenvy_format.specs.WorkedFiles.{HaveLines, HaveStatements, HaveValues, HaveOpenQuotes}
use Rattle.dotenvy_format.specs.WorkedFiles.{HaveDialects, HaveMarks, HaveWritten, HaveDecisions}
use Rattle.dotenvy_format.specs.WorkedLoads.{HaveRepeats, HaveNuls}
use Rattle.dotenvy_format.specs.Decided.{HasDecided}
use Rattle.dotenvy_format.proofs.statements.Outcomes.{outcome_of, outcome_of-is}
use Rattle.dotenvy_format.specs.Outcome.{Outcome, Says}
use Rattle.dotenvy_format.proofs.lines.EntriesOnce.{entries_of_lines, entries_of-are}

-- the bytes have the entries that are computed
computed : (dialect : Dialect) (bytes : List ℕ) (entries : List Entry) →
    entries_of_lines dialect (line_texts bytes) ≡ entries → HasEntries dialect bytes entries
computed dialect bytes entries e = rw e at (entries_of-are dialect bytes)

-- the bytes decide the entries that are computed of their whole lines
decided_computed : (dialect : Dialect) (bytes : List ℕ) (entries : List Entry) →
    decided_of dialect bytes ≡ entries → HasDecided dialect bytes entries
decided_computed dialect bytes entries e = rw e at (decided_of-are dialect bytes)

-- the line says what is computed
says_computed : (dialect : Dialect) (line : List ℕ) (outcome : Outcome) → outcome_of dialect line ≡ outcome →
    Says dialect line outcome
says_computed dialect line outcome e = rw e at (outcome_of-is dialect line)

-- the worked files of lines: which physical lines make a logical line
pub lines : HaveLines
unfolding is_name_character ucd_derived ucd_category encode is_utf8 chars
lines = search computed

-- the worked files of statements: keys, `export`, and lines without a statement
pub statements : HaveStatements
unfolding is_name_character ucd_derived ucd_category encode is_utf8 chars
statements = search computed

-- the worked files of values: what they mean, and the places of faults in them
pub values : HaveValues
unfolding is_name_character ucd_derived ucd_category encode is_utf8 chars
values = search computed

-- the worked lines with an open quote: faults of values that lack their end, and quotes after names
pub open_quotes : HaveOpenQuotes
unfolding is_name_character ucd_derived ucd_category encode is_utf8 chars
open_quotes = search says_computed

-- the worked files of dialects: what a file says in each of the two
pub dialects : HaveDialects
unfolding is_name_character ucd_derived ucd_category encode is_utf8 chars
dialects = search computed

-- the worked files of byte order marks: the loads drop one at the front, and iteration none
pub marks : HaveMarks
unfolding is_name_character ucd_derived ucd_category encode is_utf8 chars
marks = search computed

-- the worked pairs: how an empty value is written, and one with a quote, a dollar and a backslash
pub written : HaveWritten
written = (refl, refl)

-- the worked files of repeats: which of two values of a name counts, in iteration and in both loads
pub repeats : HaveRepeats
unfolding is_name_character ucd_derived ucd_category encode is_utf8 chars
repeats = search computed

-- the worked files of NULs: where one stops a load, and what is set then
pub nuls : HaveNuls
unfolding is_name_character ucd_derived ucd_category encode is_utf8 chars
nuls = search computed

-- the worked files of decisions: what is decided of bytes whose end was not reached
pub decisions : HaveDecisions
unfolding is_name_character ucd_derived ucd_category encode is_utf8 chars
decisions = search decided_computed
