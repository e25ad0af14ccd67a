-- What one logical line adds to the items.
use Rattle.std.specs.Prelude.{ℕ, ◌≡◌, ◌⊎◌, List, [], ◌∷◌, Option, Some, None, Result, Ok, Err}
use Rattle.std.specs.Str.{chars}
use Rattle.dotenvy_base.specs.declared.errors.Error.{Error}
use Rattle.dotenvy_base.specs.declared.errors.Error.TheVariants.{LineParse, Io, EnvVar, Nul, Memory}
use Rattle.dotenvy_lines.specs.declared.lines.Stage.TheVariants.{Failed}
use Rattle.dotenvy_base.specs.Errors.{IsMemoryErr}
use Rattle.dotenvy_format.specs.Outcome.{Outcome, Says}
use Rattle.dotenvy_lines.specs.Lines.{LinesState}
use Rattle.dotenvy_lines.specs.inside.Splitter.{last_lines}
use Rattle.dotenvy_format.specs.Entries.{Entry, outcome_entries}
use Rattle.dotenvy_base.specs.Environment.{Texts}
use Rattle.dotenvy_items.specs.Remembered.{Remembered}
use Rattle.dotenvy_items.specs.Meaning.{names_of, recalled_of}
use Rattle.dotenvy_items.specs.NextItem.{Item, NextItem, SaysItem, entry_item, RemembersEntry}
use Rattle.dotenvy_items.specs.inside.Reading.{ReadingState, reads_on}

-- refused memory fails the logical lines, and no other fault does
abbrev pub lines_after : {A : Type 0} → Error A → LinesState → LinesState
lines_after (LineParse text index) s = s
lines_after (Io e) s = s
lines_after (EnvVar e) s = s
lines_after (Nul key) s = s
lines_after (Memory e) s = record s { stage = Failed }

-- no entry adds no item, and one entry its own, after which its declaration is remembered
abbrev pub AddsEntries : {A : Type 0} → Texts → Remembered → List Entry → Option (Item A) →
    Remembered → Type 0
AddsEntries names old [] None new = new ≡ old
AddsEntries names old [] (Some item) new = ⊥
AddsEntries names old (entry ∷ later) None new = ⊥
AddsEntries names old (entry ∷ later) (Some item) new =
    (later ≡ []) × SaysItem item (entry_item (names_of names old) entry)
    × RemembersEntry (names_of names old) (recalled_of old) (recalled_of new) entry

-- memory was refused, and the logical lines have failed
abbrev pub IsRefused : {A : Type 0} → Option (Item A) → LinesState → Type 0
IsRefused None t = ⊥
IsRefused (Some item) t = IsMemoryErr item × (t.stage ≡ Failed)

-- the lines of the last item: those of one that is given, else those that were the last before
abbrev pub item_lines_then : {T : Type 0} → Option T → LinesState → ℕ × ℕ → ℕ × ℕ
item_lines_then None lines before = before
item_lines_then (Some item) lines before = last_lines lines

-- the next item of an iterator that reads s, and then reads t, whatever lines its last item is on
abbrev pub GivesNext : {A : Type 0} → Texts → ReadingState → Option (Item A) →
    ReadingState → Type 0
GivesNext names s item t =
    (before : ℕ × ℕ) →
    NextItem names (reads_on s before) item (reads_on t (item_lines_then item t.lines before))

-- the last line adds what it says, unless memory is refused; a fault in its place adds itself
abbrev pub AddsLine : {A : Type 0} → Texts → ReadingState → Result (Unit {0}) (Error A) →
    Option (Item A) → ReadingState → Type 0
AddsLine names s (Ok _) item t =
    IsRefused item t.lines
    ⊎ ((outcome : Outcome) × Says s.dialect (chars s.line) outcome
    × AddsEntries names s.remembered (outcome_entries outcome) item t.remembered
    × (t.lines ≡ s.lines))
AddsLine names s (Err e) item t =
    (item ≡ Some (Err e)) × (t.remembered ≡ s.remembered) × (t.lines ≡ lines_after e s.lines)
