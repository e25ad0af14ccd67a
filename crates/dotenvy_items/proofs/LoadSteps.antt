-- How far a load came, and what each line adds.
use Rattle.std.proofs.Common.{◌≡◌, ◌≢◌, ◌∙◌, ◌+◌, List, [], ◌++◌, append_assoc, Option, Some, None, ◌∷◌}
use Rattle.std.proofs.Common.{Result, Ok, Err, refl, inl, inr}
use Rattle.std.specs.Str.{chars}
use Rattle.std.proofs.lemmas.Grind.{flat_map-append}
use Rattle.dotenvy_format.specs.Outcome.{Outcome, Says}
use Rattle.dotenvy_format.specs.Entries.{Failure, Entry, outcome_entries}
use Rattle.dotenvy_format.specs.Marks.{without_mark}
use Rattle.dotenvy_format.specs.Run.{Mode, Loaded, run}
use Rattle.dotenvy_format.specs.Loads.{SameLoad}
use Rattle.dotenvy_base.specs.declared.errors.Error.{Error}
use Rattle.dotenvy_base.specs.Environment.{Texts}
use Rattle.dotenvy_base.specs.Source.{Ahead}
use Rattle.dotenvy_lines.specs.declared.lines.Stage.TheVariants.{Open}
use Rattle.dotenvy_lines.specs.Input.{InputState, IsTold, DropsMark, AsksReads}
use Rattle.dotenvy_lines.specs.Lines.{LinesState, WhereOpen}
use Rattle.dotenvy_lines.specs.Numbered.{FileLine, entries_of}
use Rattle.dotenvy_lines.specs.Reading.{HasEntriesLeft}
use Rattle.dotenvy_lines.specs.inside.Splitter.{SplitterState}
use Rattle.dotenvy_items.specs.Meaning.{values_of, recalled_of}
use Rattle.dotenvy_items.specs.Iter.{IterState}
use Rattle.dotenvy_items.specs.LoadsRest.{IsAnswer}
use Rattle.dotenvy_items.specs.LoadStops.{unmarked}
use Rattle.dotenvy_items.specs.inside.LoadStep.{LoadsLine}
use Rattle.dotenvy_format.proofs.loads.LoadRuns.{run-goes_on}
use Rattle.dotenvy_lines.proofs.Inputs.{ahead_of}
use Rattle.dotenvy_lines.proofs.DroppedMarks.{Unmarks, unmarks}
use Rattle.dotenvy_lines.proofs.LinesRead.{Read, TakesLine, Answers, file_line, line_taken, read_none}
use Rattle.dotenvy_lines.proofs.LinesRead.{read_more, next_outcome}
use Rattle.dotenvy_lines.proofs.AskedReads.{asks_line}

-- a load in this mode, from s on over this environment: what is told, and the entries that are left
pub record Load (mode : Mode) (s : IterState) (old : Texts) : Type 0 where
  pub opened : s.lines.stage ≡ Open
  pub ahead : Ahead
  pub is_told : IsTold s.lines.input.left ahead
  pub entries : List Entry
  pub has : HasEntriesLeft s.dialect ahead.fault (without_mark ahead.bytes) entries

-- these entries one by one, over these values and what s remembers
abbrev pub runs : Mode → IterState → Texts → List Entry → Loaded
runs mode s names entries = run mode (values_of names) (recalled_of s.remembered) entries

-- loads that answer the same and leave each name the same value are the same
pub same_load : {load other : Loaded} → SameLoad load other → load ≡ other
same_load same = λ i. record { env = λ n. same.env n i; answer = same.answer i }

-- some entries are done: to load all of them is to load the later ones over the values by now
pub record Done {mode : Mode} {s : IterState} {old : Texts} (l : Load mode s old) (names : Texts) : Type 0 where
  pub done : List Entry
  pub later : List Entry
  pub split : l.entries ≡ done ++ later
  pub same : (more : List Entry) → runs mode s old (done ++ more) ≡ runs mode s names more

-- a load came to t: behind the mark some entries were read and are done, and t has the later ones left
pub record Came {mode : Mode} {s : IterState} {old : Texts} (l : Load mode s old) (names : Texts) (t : LinesState)
    : Type 0 where
  pub start : LinesState
  pub unmarks : Unmarks l.ahead s.lines start
  pub lines : List FileLine
  pub read : Read s.dialect (unmarked l.ahead) start lines t
  pub same : (more : List Entry) → runs mode s old (entries_of lines ++ more) ≡ runs mode s names more

-- what is left where a load came
abbrev pub left_of : {mode : Mode} {s : IterState} {old names : Texts} {l : Load mode s old} {t : LinesState} →
    Came l names t → Ahead
left_of {l = l} k = ahead_of k.read.left l.ahead.fault

-- a load of what s has left came to t, whatever s is told
abbrev pub CameTo : Mode → IterState → Texts → Texts → LinesState → Type 0
CameTo mode s old new t = (l : Load mode s old) → Came l new t

-- nothing is done at first
abbrev pub none_done : {mode : Mode} {s : IterState} {old : Texts} (l : Load mode s old) → Done l old
none_done l = record { done = []; later = l.entries; split = refl; same = λ more. refl }

-- a load begins behind the mark
pub came_start : (A : Type 0) {mode : Mode} {s : IterState} {old : Texts} {t : LinesState} →
    t.stage ≡ s.lines.stage → t.lines_taken ≡ s.lines.lines_taken →
    WhereOpen s.lines (λ a. DropsMark {A = A} a s.lines.input (Ok tt) t.input) → CameTo mode s old old t
came_start A {t = t} stage taken drops l =
    let dropped = unmarks A (stage ∙ l.opened) taken (drops l.ahead l.opened l.is_told) in record {
      start = t;
      unmarks = dropped;
      lines = [];
      read = read_none dropped.moves.is_left dropped.is_open;
      same = λ more. refl;
    }

-- an answer that says that all went well
went_well : (A : Type 0) (said : Result (Unit {0}) Failure) → IsAnswer {A = A} said (Ok tt) → said ≡ Ok tt
went_well A (Ok done) is = refl
went_well A (Err failure) is = absurd is

-- what is left behind the mark is told
pub told_unmarked : {mode : Mode} {s : IterState} {old names : Texts} {l : Load mode s old} {t : LinesState}
    (k : Came l names t) → IsTold k.start.input.left (unmarked l.ahead)
told_unmarked {l = l} k = (k.unmarks.moves.is_left, l.is_told.1)

-- where a load came to, a text that the splitter gives is that of a logical line taken, which gives what it says
pub takes_line : (A : Type 0) {mode : Mode} {s : IterState} {old names : Texts} {l : Load mode s old}
    {p m : SplitterState} (k : Came l names p.lines) (outcome : Outcome) → Answers {A = A} p (Some (Ok tt)) m →
    Says s.dialect (chars m.line) outcome →
    TakesLine s.dialect (left_of k) p.lines (outcome_entries outcome) m.lines
takes_line A {m = m} k outcome answers says = elim (next_outcome (told_unmarked k) k.read answers) [
  | inl taken ↦ line_taken A m.line (Ok tt) taken (outcome, says, refl)
  | inr fails ↦ absurd fails
]

-- where a load came to t and the next line is loaded, the load came to where that line leads
pub came_line : {A : Type 0} {mode : Mode} {s t : IterState} {old names new : Texts} {p m : SplitterState}
    {line : Result (Unit {0}) (Error A)} → CameTo mode s old names p.lines → Answers p (Some line) m → line ≡ Ok tt →
    t ≡ record s { lines = t.lines } → LoadsLine {A = A} mode t.dialect t.remembered (chars m.line) names (Ok tt) new →
    CameTo mode s old new m.lines
came_line {A = A} {mode} {s} {names = names} {new} so_far answers is same loads l = elim (rw same at loads) [
  | inl refused ↦ absurd refused.0
  | inr (outcome, says, leaves) ↦
      let k = so_far l in
      let line = takes_line A k outcome (rw is at answers) says in
      let front = outcome_entries outcome in record {
        start = k.start;
        unmarks = k.unmarks;
        lines = k.lines ++ file_line (k.start.lines_taken + 1 + k.read.count) line ∷ [];
        read = read_more k.read line;
        same = λ more. simp (flat_map-append, append_assoc) (k.same (front ++ more)
            ∙ same_load (run-goes_on mode (values_of names) (values_of new) (recalled_of s.remembered) outcome more
            (went_well A _ leaves.is_answer) leaves.values));
      }
]

-- the reads up to the next line are those before it and its own
pub asks_next : {A : Type 0} {s : InputState} {p m : SplitterState} {line : Option (Result (Unit {0}) (Error A))} →
    AsksReads (p.lines.stage ≡ Open) s p.lines.input → (p.lines.stage ≢ Open → (line ≡ None) × (m ≡ p)) →
    AsksReads (m.lines.stage ≡ Open) p.lines.input m.lines.input →
    AsksReads (m.lines.stage ≡ Open) s m.lines.input
asks_next {s = s} {p} {m} before shut next =
    asks_line s p.lines m.lines before (λ closed. (let same = (shut closed).1 in cc)) next
