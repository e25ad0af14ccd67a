-- How a load ends: at the end, in a line, or at a final fault. And loads by rules that say the same.
use Rattle.std.proofs.Common.{◌≡◌, ◌∙◌, ℕ, List, [], ◌∷◌, ◌++◌}
use Rattle.std.proofs.Common.{append-nil, append_assoc, true, Some, None, Result, Ok, Err, ◌⊎◌, inl, inr, refl}
use Rattle.std.proofs.Common.{string_bytes}
use Rattle.std.specs.Prelude.{IsErrAnd}
use Rattle.std.specs.Str.{chars}
use Rattle.std.specs.IoError.{error_kind}
use Rattle.std.specs.declared.io.ErrorKind.TheVariants.{InvalidData, Other}
use Rattle.std.proofs.lemmas.Result.{err_from_is_err_and}
use Rattle.dotenvy_base.specs.declared.errors.Error.{Error}
use Rattle.dotenvy_base.specs.declared.errors.Error.TheVariants as error
use Rattle.dotenvy_base.specs.Errors.{IsMemory}
use Rattle.dotenvy_base.specs.Environment.{Texts}
use Rattle.dotenvy_format.specs.Outcome.{Nothing, Pair, Fault}
use Rattle.dotenvy_format.specs.Entries.{Failure, LineParse, Io, Memory, Entry, Fails}
use Rattle.dotenvy_format.specs.Decided.{HasDecided}
use Rattle.dotenvy_format.specs.Marks.{without_mark}
use Rattle.dotenvy_format.specs.Items.{LookUp}
use Rattle.dotenvy_format.specs.Run.{Mode, run}
use Rattle.dotenvy_format.specs.Loads.{SameLoad}
use Rattle.dotenvy_format.proofs.loads.LoadRuns.{run-stops}
use Rattle.dotenvy_lines.specs.declared.lines.Stage.TheVariants.{Failed}
use Rattle.dotenvy_lines.specs.Input.{IsFinal, DropsMark, begins_mark}
use Rattle.dotenvy_lines.specs.Lines.{LinesState, WhereOpen}
use Rattle.dotenvy_lines.specs.Reading.{IsReading, told_fault}
use Rattle.dotenvy_lines.specs.inside.NextLine.{AdvanceIs}
use Rattle.dotenvy_lines.specs.inside.Splitter.{SplitterState}
use Rattle.dotenvy_lines.proofs.Inputs.{final_weaker}
use Rattle.dotenvy_lines.proofs.LineEntries.{left_exists, left_once, left-none}
use Rattle.dotenvy_lines.proofs.DroppedMarks.{mark_decides, final_marked}
use Rattle.dotenvy_lines.proofs.NumberedLines.{counts_more}
use Rattle.dotenvy_items.specs.Meaning.{values_of, recalled_of}
use Rattle.dotenvy_items.specs.Iter.{IterState}
use Rattle.dotenvy_items.specs.LoadsRest.{IsAnswer, Leaves, Rule, LoadsRest}
use Rattle.dotenvy_items.specs.LoadStops.{DecideLoaded, StopsIn, StopsInLine, Stops, unmarked}
use Rattle.dotenvy_items.specs.inside.ItemStep.{lines_after}
use Rattle.dotenvy_items.specs.inside.LoadStep.{LoadIs, LoadsLine, stopped, stopped_if}
use Rattle.dotenvy_lines.proofs.LinesRead.{TakesLine, Answers, line_taken, read_more, lines_read, entries_left}
use Rattle.dotenvy_lines.proofs.LinesRead.{read_decided, next_outcome, read_end}
use Rattle.dotenvy_lines.specs.Numbered.{entries_of, logicals_of}
use Rattle.std.proofs.lemmas.Grind.{flat_map-append}
use Rattle.std.proofs.lemmas.List.{map-append}
use Rattle.dotenvy_items.proofs.LoadSteps.{Load, runs, same_load, Done, Came, CameTo, left_of, none_done}
use Rattle.dotenvy_items.proofs.LoadSteps.{told_unmarked, takes_line}
use Rattle.dotenvy_items.proofs.NextItems.{goes_on_lines, failed_lines, after_failed, after_input}

-- the bytes, without a byte order mark, decide these entries
abbrev Decide : IterState → List Entry → List ℕ → Type 0
Decide s entries bytes = HasDecided s.dialect (without_mark bytes) entries

-- a load ends with this environment and this answer, and where it stops
pub record Ends {A : Type 0} {mode : Mode} {s : IterState} {old : Texts} (l : Load mode s old) (new : Texts)
    (answer : Result (Unit {0}) (Error A)) (t : IterState) : Type 0 where
  pub read : List Entry
  pub reading : IsReading s.dialect l.ahead s.lines.input l.entries read
  pub leaves : Leaves (runs mode s old read) new answer
  pub stops : StopsIn (run mode) l.ahead s old answer t

-- an error is refused memory, or leaves the lines as they are
refused_or_same : {A : Type 0} (e : Error A) (m : LinesState) → IsMemory e ⊎ (lines_after e m ≡ m)
refused_or_same (error.Memory x) m = inl tt
refused_or_same e m = inr refl

-- where a load answers an error, it met a failure
is_failure : {A : Type 0} (e : Error A) (said : Result (Unit {0}) Failure) → IsAnswer said (Err e) →
    (failure : Failure) × said ≡ Err failure
is_failure e (Ok done) is = absurd is
is_failure e (Err failure) is = (failure, refl)

-- the entries that are done where a load came
abbrev loaded : {mode : Mode} {s : IterState} {old names : Texts} {l : Load mode s old} {t : LinesState} →
    Came l names t → Done l names
loaded {l = l} k =
    let after = entries_left k.read l.entries l.has in
    record { done = entries_of k.lines; later = after.0; split = after.2; same = k.same }

module _ {mode : Mode} {s : IterState} {old names : Texts} {l : Load mode s old} where
  -- a load meets no error in the entries that are done
  loads_done : (k : Done l names) → (runs mode s old k.done).answer ≡ Ok tt
  loads_done k = rw (← append-nil k.done, k.same [])

module _ {A : Type 0} {mode : Mode} {s : IterState} {old names : Texts} {l : Load mode s old} where
  -- a load ends with what is read where it came to
  ends_at : {new : Texts} {answer : Result (Unit {0}) (Error A)} {t : IterState} (k : Done l names)
      (more : List Entry) → IsReading s.dialect l.ahead s.lines.input l.entries (k.done ++ more) →
      Leaves (runs mode s names more) new answer → StopsIn (run mode) l.ahead s old answer t → Ends l new answer t
  ends_at k more reading leaves stops =
      record { read = k.done ++ more; reading = reading; leaves = rw (k.same more) leaves; stops = stops }

  -- a load ends with the later entries and the fault that is told
  ends_read : {new : Texts} {answer : Result (Unit {0}) (Error A)} {t : IterState} (k : Done l names) →
      Leaves (runs mode s names (k.later ++ told_fault l.ahead.fault)) new answer →
      StopsIn (run mode) l.ahead s old answer t → Ends l new answer t
  ends_read k leaves stops = ends_at k _ (inl (rw (k.split, append_assoc))) leaves stops

  -- where memory is refused, a load ends and stops for good
  ends_memory : (e : Error A) (t : IterState) → Done l names → IsMemory e → Ends l names (Err e) (stopped e t)
  ends_memory (error.Memory x) t k is =
      ends_at k (Fails Memory ∷ []) (inr (inl (record { front = k.done; back = k.later; cut = k.split; ends = refl })))
      (record { values = λ n. refl; is_answer = tt }) (inr ((refl, inl tt), refl))
  ends_memory e t k is = absurd is

  -- at a final fault before which the bytes decide the entries that are done, a load stops for good
  stops_final : (m : LinesState) (e : Error A) (k : Done l names) → m.stage ≡ Failed →
      IsFinal l.ahead s.lines.input (Decide s k.done) e m.input →
      StopsIn (run mode) l.ahead s old (Err e) (stopped e (record s { lines = m }))
  stops_final m e k failed final =
      let stage = after_failed e m failed in
      let before =
      final_weaker l.ahead s.lines.input m.input (Decide s k.done) (DecideLoaded (run mode) s old) e
      (λ bytes has. (k.done, has, loads_done k)) final in
      inr ((stage, rw (after_input e m) before), failed_lines (lines_after e m) stage)

  -- a load ends at a final fault before which the bytes decide the entries that are done
  ends_final : (m : LinesState) (e : Error A) (k : Done l names) → m.stage ≡ Failed →
      IsFinal l.ahead s.lines.input (Decide s k.done) e m.input →
      Ends l names (Err e) (stopped e (record s { lines = m }))
  ends_final m e k failed (inl refused) = ends_memory e (record s { lines = m }) k refused
  ends_final m (error.Io x) k failed (inr (inl (told, has))) =
      let same = left_once s.dialect (Some (error_kind x)) _ l.entries k.done (rw told at l.has) has in
      ends_at k (Fails (Io (error_kind x)) ∷ []) (inl (rw (same, told)))
      (record { values = λ n. refl; is_answer = refl })
      (stops_final m (error.Io x) k failed (inr (inl (told, has))))
  ends_final m (error.Io x) k failed (inr (inr (is, met))) =
      ends_at k (Fails (Io Other) ∷ [])
      (inr (inr (record {
        bytes = met.front;
        later = met.later;
        cut = met.cut;
        each_gave = met.each_gave;
        decided = k.done;
        has_decided = met.holds;
        ends = refl;
      })))
      (record { values = λ n. refl; is_answer = is }) (stops_final m (error.Io x) k failed (inr (inr (is, met))))
  ends_final m e k failed (inr io) = absurd io

  -- where no line is left, a load ends after the last entry
  ends_none : {p m : SplitterState} (k : Came l names p.lines) → Answers {A = A} p None m →
      Ends {A = A} l names (Ok tt) (record s { lines = m.lines })
  ends_none k answers =
      let e = read_end (told_unmarked k) k.read answers in
      let after = entries_left k.read l.entries l.has in
      let none = left_once s.dialect l.ahead.fault k.read.left after.0 [] after.1
      (left-none s.dialect l.ahead.fault k.read.left e.0 e.1) in
      ends_read (loaded k) (rw (none, e.1) (record { values = λ n. refl; is_answer = tt })) (e.2, refl)

  -- where the line that was taken gives an entry with an error, a load ends with it, and stops in that line
  ends_line : {new : Texts} {t m : LinesState} {entry : Entry} {e : Error A} (k : Came l names t) →
      TakesLine s.dialect (left_of k) t (entry ∷ []) m → Leaves (runs mode s names (entry ∷ [])) new (Err e) →
      Ends l new (Err e) (stopped e (record s { lines = m }))
  ends_line {t = t} {m} {entry} {e} k line leaves =
      let after = entries_left (read_more k.read line) l.entries l.has in
      let fault = told_fault l.ahead.fault in
      let failed = is_failure e _ leaves.is_answer in
      let all : runs mode s old (l.entries ++ fault) ≡ runs mode s names (entry ∷ []) =
      simp (after.2, flat_map-append, append_assoc) (k.same (entry ∷ (after.0 ++ fault)) ∙ run-stops mode (values_of names)
      (recalled_of s.remembered) (entry ∷ []) (after.0 ++ fault) failed.0 failed.1) in
      record {
        read = l.entries ++ fault;
        reading = inl refl;
        leaves = rw all leaves;
        stops = elim (refused_or_same e m) [
          | inl refused ↦ (ends_memory e (record s { lines = m }) (loaded k) refused).stops
          | inr same ↦ inl (in_line same)
        ];
      }
    where
      in_line : lines_after e m ≡ m →
          StopsInLine (run mode) (unmarked l.ahead) s old (Err e) (stopped e (record s { lines = m }))
      in_line same =
          let own = read_more k.read line in
          let first =
          counts_more k.start.lines_taken k.read.count t.lines_taken 1 m.first_line k.read.counts line.counts.0 in
          rw (same, goes_on_lines m line.goes_on) (record {
            done = entries_of k.lines;
            entry = entry;
            stops = (loads_done (loaded k), rw (k.same (entry ∷ [])) leaves.is_answer);
            left = own.left;
            uses = record {
              lines = logicals_of k.lines;
              before = k.read.count;
              are_before = (lines_read k.read).0;
              give = (lines_read k.read).1;
              last = line.next;
              gives = line.gives;
              uses = record { count = own.count; are_first = rw map-append at (lines_read own).0; rest = own.rest };
            };
            is_left = own.moves.is_left;
            stands = (rw k.unmarks.taken at first, rw k.unmarks.taken at own.counts, rw k.unmarks.taken at own.counts);
            goes_on = line.goes_on;
          })

  -- where loading a line has an error, a load ends with it
  ends_loading : {new : Texts} {p m : SplitterState} {e : Error A} (k : Came l names p.lines) →
      Answers {A = A} p (Some (Ok tt)) m → LoadsLine mode s.dialect s.remembered (chars m.line) names (Err e) new →
      Ends l new (Err e) (stopped e (record s { lines = m.lines }))
  ends_loading {m = m} {e = e} k answers (inl (refused, same)) =
      rw same (ends_memory e (record s { lines = m.lines }) (loaded k) refused)
  ends_loading k answers (inr (Nothing, says, leaves)) = absurd leaves.is_answer
  ends_loading k answers (inr (Pair key pieces, says, leaves)) =
      ends_line k (takes_line A k (Pair key pieces) answers says) leaves
  ends_loading k answers (inr (Fault text index, says, leaves)) =
      ends_line k (takes_line A k (Fault text index) answers says) leaves

  -- a load ends at a fault in the place of a line
  ends_fault : {t : LinesState} (m : SplitterState) (e : Error A) (k : Came l names t) →
      AdvanceIs {A = A} (left_of k) t (Some (Err e)) m.line m.lines →
      Ends l names (Err e) (stopped e (record s { lines = m.lines }))
  ends_fault m e k (inr (failed, final)) =
      let decided = read_decided k.read e m.lines.input final in
      ends_final m.lines e (loaded k) failed
      (final_marked (λ bytes. HasDecided s.dialect bytes (entries_of k.lines)) e m.lines.input
      k.unmarks decided)
  ends_fault m (error.LineParse text index) k (inl taken) =
      ends_line {entry = Fails (LineParse (chars (string_bytes text)) index)} k
      (line_taken A m.line (Err (error.LineParse text index)) taken refl)
      (record { values = λ n. refl; is_answer = (refl, refl) })
  ends_fault m (error.Io x) k (inl taken) =
      ends_line {entry = Fails (Io InvalidData)} k (line_taken A m.line (Err (error.Io x)) taken refl)
      (record { values = λ n. refl; is_answer = taken.1.0 })
  ends_fault m e k (inl (count, takes, counts, goes_on)) = absurd takes

-- a load is what it ends with, whatever is told
load_is : {A : Type 0} {mode : Mode} {s t : IterState} {old new : Texts} (answer : Result (Unit {0}) (Error A)) →
    ((l : Load mode s old) → Ends l new answer (stopped_if answer t)) → LoadIs mode s old new answer t
load_is {s = s} answer ends = record {
  told = λ opened a told entries has.
      let e = ends (record { opened = opened; ahead = a; is_told = told; entries = entries; has = has }) in
      (e.read, e.reading, e.leaves);
  stops = λ opened a told.
      let left = left_exists s.dialect a.fault (without_mark a.bytes) in
      (ends (record { opened = opened; ahead = a; is_told = told; entries = left.0; has = left.1 })).stops;
}

-- a load that ends with this error, whatever is told, answers it
error_is : {A : Type 0} {mode : Mode} {s t : IterState} {old new : Texts} {answer : Result (Unit {0}) (Error A)}
    (e : Error A) → IsErrAnd answer (λ said. said ≡ e) → ((l : Load mode s old) → Ends l new (Err e) (stopped e t)) →
    LoadIs mode s old new answer t
error_is {answer = answer} e is ends = let p = err_from_is_err_and answer is in rw (p.1, p.2) (load_is (Err e) ends)

-- where loading the next line has an error, the load stops there
pub line_stops : {A : Type 0} {mode : Mode} {s t : IterState} {old names new : Texts} {p m : SplitterState}
    {line answer : Result (Unit {0}) (Error A)} {e : Error A} → CameTo mode s old names p.lines →
    Answers p (Some line) m → line ≡ Ok tt → t ≡ record s { lines = t.lines } →
    LoadsLine mode t.dialect t.remembered (chars m.line) names (Err e) new → IsErrAnd answer (λ said. said ≡ e) →
    LoadIs mode s old new answer (record t { lines = m.lines })
line_stops {e = e} so_far gives is same loads answers =
    let said = rw same at loads in rw same (error_is e answers (λ l. ends_loading (so_far l) (rw is at gives) said))

-- where a fault stands in the place of the next line, the load stops there
pub fault_stops : {A : Type 0} {mode : Mode} {s t : IterState} {old names : Texts} {p m : SplitterState}
    {line answer : Result (Unit {0}) (Error A)} {e : Error A} → CameTo mode s old names p.lines →
    Answers p (Some line) m → line ≡ Err e → t ≡ record s { lines = t.lines } → IsErrAnd answer (λ said. said ≡ e) →
    LoadIs mode s old names answer (record t { lines = m.lines })
fault_stops {m = m} {e = e} so_far gives is same answers = rw same (error_is e answers (λ l.
    let k = so_far l in ends_fault m e k (rw is at (next_outcome (told_unmarked k) k.read gives))))

-- where there is no more line, the load stops at the end
pub none_stops : {A : Type 0} {mode : Mode} {s t : IterState} {old names : Texts} {p m : SplitterState} →
    CameTo mode s old names p.lines → Answers {A = A} p None m → t ≡ record s { lines = t.lines } →
    LoadIs {A = A} mode s old names (Ok tt) (record t { lines = m.lines })
none_stops so_far gives same = rw same (load_is (Ok tt) (λ l. ends_none (so_far l) gives))

-- where a fault comes before the mark is decided, a load answers that fault, changes nothing and stops for good
pub mark_stops : {A : Type 0} {mode : Mode} {old : Texts} {s t : IterState} {answer : Result (Unit {0}) (Error A)}
    (m : LinesState) (e : Error A) → s ≡ t → WhereOpen s.lines (λ a. DropsMark a s.lines.input (Err e) m.input) →
    m.stage ≡ Failed → IsErrAnd answer (λ said. said ≡ e) → LoadIs mode t old old answer (record s { lines = m })
mark_stops {s = s} m e same drops failed answers =
    rw (← same) (error_is e answers (λ l. ends_final m e (none_done l) failed
    (final_weaker l.ahead s.lines.input m.input (λ bytes. begins_mark bytes ≡ true) (Decide s []) e
    (mark_decides s.dialect) (drops l.ahead l.opened l.is_told))))

-- where memory is refused at the start, a load answers that and changes nothing
pub loads_refused : {A : Type 0} (mode : Mode) (s : IterState) {old : Texts} {e : Error A} → IsMemory e →
    LoadsRest (run mode) s old (Err e) old
loads_refused mode s is a told entries has = (
  Fails Memory ∷ [],
  inr (inl (record { front = []; back = entries; cut = refl; ends = refl })),
  record { values = λ n. refl; is_answer = is },
)

-- rules that say the same are the same
pub same_rule : {f g : Rule} →
    ((env remembered : LookUp) (entries : List Entry) →
    SameLoad (f env remembered entries) (g env remembered entries)) → f ≡ g
same_rule same = λ i env remembered entries. same_load (same env remembered entries) i

-- the same rules allow the same loads
pub loads_by : {A : Type 0} {f g : Rule} (s : IterState) (old : Texts) {new : Texts}
    {answer : Result (Unit {0}) (Error A)} → f ≡ g → LoadsRest f s old answer new → LoadsRest g s old answer new
loads_by s old same loads = rw same at loads

-- the same rules stop at the same places
pub stops_by : {A : Type 0} {f g : Rule} (s t : IterState) (old : Texts) (answer : Result (Unit {0}) (Error A)) →
    f ≡ g → Stops f s old answer t → Stops g s old answer t
stops_by s t old answer same stops = rw same at stops

-- a load stops so where its result and its end are these
pub stops_as : {A : Type 0} {t v : IterState} {answer said : Result (Unit {0}) (Error A)} (rule : Rule) (s : IterState)
    (old : Texts) → answer ≡ said → v ≡ t → Stops rule s old said t → Stops rule s old answer v
stops_as rule s old is end stops = rw (is, end) stops
