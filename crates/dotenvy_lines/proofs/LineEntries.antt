-- The entries of what a splitter has left, one answer after another.
use Rattle.std.proofs.Common.{◌≡◌, ◌≢◌, ℕ, length, arith, List, [], ◌∷◌, ◌++◌, drop, Option, Some, None, refl, sym}
use Rattle.std.proofs.lemmas.Option.{none-some}
use Rattle.std.specs.declared.io.ErrorKind.{ErrorKind}
use Rattle.dotenvy_format.specs.declared.dialect.Dialect.{Dialect}
use Rattle.dotenvy_format.specs.LogicalLine.{Logical, StaysOpen, IsNext, IsOpenEnd}
use Rattle.dotenvy_format.specs.Entries.{Entry, AreLogicalLines, Gives, GiveAll}
use Rattle.dotenvy_format.specs.Decided.{up_to_last_line_feed, without_open_end, HasDecided}
use Rattle.dotenvy_lines.specs.Input.{InputState}
use Rattle.dotenvy_lines.specs.Reading.{HasEntriesLeft}
use Rattle.dotenvy_lines.specs.Lines.{whole_lines}
use Rattle.dotenvy_lines.specs.inside.NextLine.{lines_so_far, IsNextAlways, TakesNext, IsUndecided}
use Rattle.dotenvy_format.proofs.lines.EntriesOnce.{lines_within, cut_line_texts, entries_exist, entries_once}
use Rattle.dotenvy_format.proofs.lines.DecidedFront.{decided_exist, decided_once}
use Rattle.dotenvy_format.proofs.lines.EntriesOnce.{entries-none}

-- there are entries of what is left
pub left_exists : (dialect : Dialect) (fault : Option ErrorKind) (bytes : List ℕ) →
    (entries : List Entry) × HasEntriesLeft dialect fault bytes entries
left_exists dialect None = entries_exist dialect
left_exists dialect (Some kind) = decided_exist dialect

-- what is left has at most one list of entries
pub left_once : (dialect : Dialect) (fault : Option ErrorKind) (bytes : List ℕ) (entries others : List Entry) →
    HasEntriesLeft dialect fault bytes entries → HasEntriesLeft dialect fault bytes others → entries ≡ others
left_once dialect None = entries_once dialect
left_once dialect (Some kind) = decided_once dialect

-- nothing is left at the end
pub left-none : (dialect : Dialect) (fault : Option ErrorKind) (bytes : List ℕ) → bytes ≡ [] → fault ≡ None →
    HasEntriesLeft dialect fault bytes []
left-none dialect fault bytes e f = rw (e, f) (entries-none dialect)

-- a logical line that is no open end gives its entries before those of the later lines up to an open end
decided_give : (dialect : Dialect) (next : Logical) (lines : List Logical) (front after : List Entry) →
    (IsOpenEnd next → ⊥) → Gives dialect next front → GiveAll dialect (without_open_end lines) after →
    GiveAll dialect (without_open_end (next ∷ lines)) (front ++ after)
decided_give dialect (StaysOpen text n) lines front after no_open gives later = absurd (no_open tt)
decided_give dialect _ lines front after no_open gives later = (front, after, gives, later, refl)

-- where a logical line that is no open end is the next one, its entries are decided before those of what it leaves
decided_first : {bytes left : List ℕ} (dialect : Dialect) (count : ℕ) (next : Logical) (front after : List Entry) →
    (IsOpenEnd next → ⊥) → lines_so_far bytes ≢ [] → IsNext (lines_so_far bytes) count next →
    drop count (lines_so_far bytes) ≡ lines_so_far left → Gives dialect next front → HasDecided dialect left after →
    HasDecided dialect bytes (front ++ after)
decided_first dialect count next front after no_open some is_next later gives has = record {
  lines = next ∷ has.lines;
  are_lines = (some, count, is_next, rw later has.are_lines);
  give = decided_give dialect next has.lines front after no_open gives has.give;
}

-- the entries of the next logical line come first, and then those of what it leaves
pub left_next : {count : ℕ} {bytes : List ℕ} {s t : InputState} {next : Logical} (dialect : Dialect)
    (fault : Option ErrorKind) (front after : List Entry)
    (k : TakesNext (record { bytes = bytes; fault = fault }) s next count t) → Gives dialect next front →
    HasEntriesLeft dialect fault k.left after → HasEntriesLeft dialect fault bytes (front ++ after)
left_next {count} {next = next} dialect None front after k gives has = record {
  lines = next ∷ has.lines;
  are_lines = (k.some, count, k.is_next, rw (← k.later) has.are_lines);
  give = (front, after, gives, has.give, refl);
}
left_next {count} {next = next} dialect (Some kind) front after k gives has =
    decided_first dialect count next front after (λ is_open. none-some kind (sym (k.open_at_end is_open))) k.some
    k.is_next (sym k.later) gives has

-- where nothing is left no line is whole
pub no_lines : (fault : Option ErrorKind) (left : List ℕ) → left ≡ [] →
    whole_lines (record { bytes = left; fault = fault }) ≡ []
no_lines None left empty = rw empty
no_lines (Some kind) left empty = rw empty

-- bytes that are a logical line, whatever follows them, decide its entries before what more bytes decide
pub decided-next : (dialect : Dialect) (bytes more : List ℕ) (count : ℕ) (next : Logical)
    (front after : List Entry) → (IsOpenEnd next → ⊥) → IsNextAlways bytes count next → Gives dialect next front →
    HasDecided dialect more after → HasDecided dialect (bytes ++ more) (front ++ after)
decided-next dialect bytes more count next front after no_open always gives has =
    let n = always more in decided_first dialect count next front after no_open n.0 n.1 n.2 gives has

-- where no logical line is whole, nothing is decided
pub decided-none : (dialect : Dialect) (bytes : List ℕ) → IsUndecided bytes → HasDecided dialect bytes []
decided-none dialect bytes undecided =
    let lines = lines_so_far bytes in
    let has = lines_within (length lines) lines (omega arith) (cut_line_texts (up_to_last_line_feed bytes)) in
    at has.0 has.1
  where
    at : (lines : List Logical) → AreLogicalLines (lines_so_far bytes) lines → HasDecided dialect bytes []
    at [] are = record { lines = []; are_lines = are; give = refl }
    at (StaysOpen text n ∷ lines) are = record { lines = StaysOpen text n ∷ lines; are_lines = are; give = refl }
    at (next ∷ lines) are = absurd (undecided are.1 next are.0 are.2)

-- where a fault is told behind bytes that decide nothing, no entry is left
pub left-fault : (dialect : Dialect) (fault : Option ErrorKind) (kind : ErrorKind) (bytes : List ℕ)
    (entries : List Entry) → fault ≡ Some kind → HasEntriesLeft dialect fault bytes entries →
    HasDecided dialect bytes [] → entries ≡ []
left-fault dialect fault kind bytes entries is has none = decided_once dialect bytes entries [] (rw is at has) none
