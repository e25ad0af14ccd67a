-- The next item: the lines that add nothing are passed, and the first that adds one gives it.
use Rattle.std.proofs.Common.{ℕ, ◌≡◌, true, false, List, [], ◌∷◌, Option, Some, None, Result, Ok, Err}
use Rattle.std.proofs.Common.{inl, inr, refl, string_bytes, ◌+◌, ◌++◌}
use Rattle.std.proofs.lemmas.Grind.{flat_map-append}
use Rattle.std.proofs.lemmas.List.{map-append}
use Rattle.std.specs.Prelude.{is_some}
use Rattle.std.specs.Str.{chars}
use Rattle.std.specs.declared.io.ErrorKind.TheVariants.{InvalidData}
use Rattle.dotenvy_format.specs.declared.dialect.Dialect.{Dialect}
use Rattle.dotenvy_base.specs.declared.errors.Error.{Error}
use Rattle.dotenvy_base.specs.declared.errors.Error.TheVariants.{LineParse, Io, EnvVar, Nul, Memory}
use Rattle.dotenvy_lines.specs.declared.lines.Stage.TheVariants.{Failed, Open}
use Rattle.dotenvy_format.specs.Entries.{Entry, Fails, LineParse as FailsLine, Io as FailsIo, outcome_entries}
use Rattle.dotenvy_base.specs.Environment.{Texts}
use Rattle.dotenvy_base.specs.Source.{Ahead}
use Rattle.dotenvy_lines.specs.Input.{IsTold, IsFinal}
use Rattle.dotenvy_lines.specs.Lines.{LinesState, GoesOn, no_line}
use Rattle.dotenvy_lines.specs.Numbered.{FileLine, entries_of, logicals_of}
use Rattle.dotenvy_lines.specs.Reading.{HasEntriesLeft}
use Rattle.dotenvy_lines.specs.inside.NextLine.{IsUndecided, AdvanceIs}
use Rattle.dotenvy_lines.specs.inside.Splitter.{SplitterState, last_lines}
use Rattle.dotenvy_lines.proofs.Inputs.{ahead_of}
use Rattle.dotenvy_lines.proofs.LinesRead.{Read, TakesLine, Answers, file_line, line_taken, lines_read, read_more}
use Rattle.dotenvy_lines.proofs.LinesRead.{entries_left, read_decided, read_none, next_outcome}
use Rattle.dotenvy_lines.proofs.NumberedLines.{counts_more}
use Rattle.dotenvy_items.specs.Iter.{IterState, state_of}
use Rattle.dotenvy_items.specs.NextItem.{Item, ItemIs, NextItem, TakesEntry}
use Rattle.dotenvy_items.specs.Remembered.{Remembered}
use Rattle.dotenvy_items.specs.inside.Reading.{ReadingState, reads_on}
use Rattle.dotenvy_items.specs.inside.ItemStep.{lines_after, AddsEntries, IsRefused, AddsLine, GivesNext, item_lines_then}

-- from s on, lines that have no entry were passed
pub record Passed (a : Ahead) (dialect : Dialect) (s t : LinesState) : Type 0 where
  pub lines : List FileLine
  pub read : Read dialect a s lines t
  pub nothing : entries_of lines ≡ []

-- no line was passed yet
pub passed_none : {dialect : Dialect} {a : Ahead} {s : LinesState} → s.input.left ≡ Some a → s.stage ≡ Open →
    Passed a dialect s s
passed_none is_left is_open = record { lines = []; read = read_none is_left is_open; nothing = refl }

-- what s is while it goes on, where the logical lines are these
abbrev pub read_to : IterState → SplitterState → ReadingState
read_to s m = record { lines = m.lines; line = m.line; remembered = s.remembered; dialect = s.dialect }

-- what one more line leads to: an item that is the next one, or one more line that was passed
pub record LeadsTo {A : Type 0} (names : Texts) (a : Ahead) (s : IterState) (entries : List Entry)
    (item : Option (Item A)) (v : LinesState) (remembered : Remembered) : Type 0 where
  pub gives :
      is_some item ≡ true →
      ItemIs names a s entries item (state_of v remembered s.dialect (item_lines_then item v s.item_lines))
  pub passes : is_some item ≡ false → Passed a s.dialect s.lines v × (remembered ≡ s.remembered)

-- logical lines that go on tell the first and the last physical line of the last one
pub goes_on_lines : (m : LinesState) → GoesOn m → last_lines m ≡ (m.first_line, m.lines_taken)
goes_on_lines m (inl is_open) = rw is_open
goes_on_lines m (inr (ended, nothing)) = rw ended

-- logical lines that have failed tell no line
pub failed_lines : (m : LinesState) → m.stage ≡ Failed → last_lines m ≡ no_line
failed_lines m failed = rw failed

-- logical lines that have failed stay failed, whatever fault was given
pub after_failed : {A : Type 0} (e : Error A) (m : LinesState) → m.stage ≡ Failed → (lines_after e m).stage ≡ Failed
after_failed (Memory e) m h = refl
after_failed _ m h = h

-- no fault that is given changes the input of the logical lines
pub after_input : {A : Type 0} (e : Error A) (m : LinesState) → (lines_after e m).input ≡ m.input
after_input (Memory e) m = refl
after_input _ m = refl

-- refused memory, where the logical lines have failed, is the next item
refused_leads : {A : Type 0} {names : Texts} {a : Ahead} {s : IterState} {v : LinesState} {remembered : Remembered}
    {entries : List Entry} (item : Option (Item A)) → IsRefused item v → LeadsTo names a s entries item v remembered
refused_leads {v = v} (Some (Err e)) is = record {
  gives = λ _. inr ((is.1, inl is.0), failed_lines v is.1);
  passes = λ h. cc;
}
refused_leads (Some (Ok pair)) is = absurd is.0
refused_leads None is = absurd is

module _ {A : Type 0} {names : Texts} {a : Ahead} {s : IterState} {entries : List Entry} {t : LinesState}
    (has : HasEntriesLeft s.dialect a.fault a.bytes entries) (k : Passed a s.dialect s.lines t) where
  -- where a line was taken and its own entries added, an item came or the line was passed
  added : {v : LinesState} {remembered : Remembered} (front : List Entry) (item : Option (Item A)) →
      TakesLine s.dialect (ahead_of k.read.left a.fault) t front v →
      AddsEntries names s.remembered front item remembered → LeadsTo names a s entries item v remembered
  added [] None line adds =
      let passed : Passed a s.dialect s.lines _ = record {
        lines = k.lines ++ file_line (s.lines.lines_taken + 1 + k.read.count) line ∷ [];
        read = read_more k.read line;
        nothing = simp (flat_map-append, k.nothing);
      } in
      record { gives = λ h. cc; passes = λ _. (passed, adds) }
  added [] (Some item) line adds = absurd adds
  added (entry ∷ later) None line adds = absurd adds
  added (entry ∷ other ∷ later) (Some item) line (one, is, remembers) = cc
  added {v = v} (entry ∷ []) (Some item) line (one, is, remembers) =
      let r = read_more k.read line in
      let only : entries_of (k.lines ++ file_line (s.lines.lines_taken + 1 + k.read.count) line ∷ []) ≡ entry ∷ [] =
      simp (flat_map-append, k.nothing) in
      let begins =
      counts_more s.lines.lines_taken k.read.count t.lines_taken 1 v.first_line k.read.counts line.counts.0 in
      let after = entries_left r entries has in
      let taken : TakesEntry names a s entries entry (state_of v _ s.dialect (last_lines v)) = record {
        used = r.used;
        left = r.left;
        moves = r.moves;
        uses = record {
          lines = logicals_of k.lines;
          before = k.read.count;
          are_before = (lines_read k.read).0;
          give = rw k.nothing at (lines_read k.read).1;
          last = line.next;
          gives = line.gives;
          uses = record { count = r.count; are_first = rw map-append at (lines_read r).0; rest = r.rest };
        };
        stays = elim r.stays [ inl ended ↦ inl ended | inr decide ↦ inr (λ more. rw only at (decide more).decide) ];
        later = after.0;
        first = rw only at after.2;
        has_left = after.1;
        stands = rw (goes_on_lines v line.goes_on) (begins, r.counts, r.counts);
        goes_on = line.goes_on;
        dialect = refl;
        remembers = remembers;
      } in
      record { gives = λ _. inl (entry, is, taken); passes = λ h. cc }

  -- a final fault is the next item, and the bytes before it decide no entry
  final_leads : {remembered : Remembered} (e : Error A) (m : LinesState) → m.stage ≡ Failed →
      IsFinal (ahead_of k.read.left a.fault) t.input IsUndecided e m.input →
      LeadsTo names a s entries (Some (Err e)) (lines_after e m) remembered
  final_leads e m failed final =
      let stage = after_failed e m failed in record {
        gives = λ _. inr (
          (stage, rw (after_input e m) (rw k.nothing at (read_decided k.read e m.input final))),
          failed_lines (lines_after e m) stage,
        );
        passes = λ h. cc;
      }

-- where one more line is answered and adds what it says, an item came or the line was passed
pub next_leads : {A : Type 0} {names : Texts} {a : Ahead} {s : IterState} {entries : List Entry} {p : SplitterState}
    {item : Option (Item A)} → IsTold s.lines.input.left a → HasEntriesLeft s.dialect a.fault a.bytes entries →
    Passed a s.dialect s.lines p.lines → (line : Result (Unit {0}) (Error A)) (m : SplitterState) (v : ReadingState) →
    Answers p (Some line) m → AddsLine names (read_to s m) line item v →
    LeadsTo names a s entries item v.lines v.remembered
next_leads {A} {names} {a} {s} {entries} {p} {item} told has k line m v answers adds =
    at line adds (next_outcome told k.read answers)
  where
    at : (r : Result (Unit {0}) (Error A)) → AddsLine names (read_to s m) r item v →
        AdvanceIs (ahead_of k.read.left a.fault) p.lines (Some r) m.line m.lines →
        LeadsTo names a s entries item v.lines v.remembered
    at (Ok u) (inl refused) is = refused_leads item refused
    at (Ok u) (inr (outcome, says, adds, lines)) (inl taken) =
        let line = line_taken A m.line (Ok u) taken (outcome, says, refl) in
        rw lines (added has k (outcome_entries outcome) item line adds)
    at (Ok u) (inr (outcome, says, adds, lines)) (inr fails) = absurd fails
    at (Err e) (is, same, lines) (inr (failed, final)) = rw (is, lines) (final_leads has k e m.lines failed final)
    at (Err (LineParse text index)) (is, same, lines) (inl taken) =
        rw (is, lines) (added has k (Fails (FailsLine (chars (string_bytes text)) index) ∷ [])
        (Some (Err (LineParse text index))) (line_taken A m.line (Err (LineParse text index)) taken refl)
        (refl, (refl, refl), λ name. rw same refl))
    at (Err (Io e)) (is, same, lines) (inl taken) =
        rw (is, lines) (added has k (Fails (FailsIo InvalidData) ∷ []) (Some (Err (Io e)))
        (line_taken A m.line (Err (Io e)) taken refl) (refl, taken.1.0, λ name. rw same refl))
    at (Err (EnvVar e)) adds (inl (count, takes, counts, goes_on)) = absurd takes
    at (Err (Nul key)) adds (inl (count, takes, counts, goes_on)) = absurd takes
    at (Err (Memory e)) adds (inl (count, takes, counts, goes_on)) = absurd takes

-- the next item is that of what is read, for an iterator that is seen to read it
pub seen_item : {A : Type 0} {s t : IterState} {item : Option (Item A)} (names : Texts) (u v : ReadingState)
    (before : ℕ × ℕ) → reads_on u before ≡ s → t ≡ reads_on v (item_lines_then item v.lines before) →
    GivesNext names u item v → NextItem names s item t
seen_item names u v before is end gives = rw (← is, end) (gives before)
