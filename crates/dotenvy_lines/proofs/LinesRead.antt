-- The one walk over what a splitter has left: the logical lines taken, their numbered entries, and what follows.
use Rattle.std.proofs.Common.{◌≡◌, ◌≢◌, ◌∙◌, ℕ, ◌+◌, arith, List, [], ◌∷◌, ◌++◌, length, drop, append_assoc}
use Rattle.std.proofs.Common.{append-nil, length-append, Option, Some, None, Result, Ok, Err, refl, sym, ap, inl, inr}
use Rattle.std.proofs.Common.{◌⊎◌, string_bytes}
use Rattle.std.specs.Str.{chars}
use Rattle.std.specs.declared.io.ErrorKind.TheVariants.{InvalidData}
use Rattle.std.proofs.lemmas.Grind.{flat_map-append}
use Rattle.std.proofs.lemmas.List.{drop-drop}
use Rattle.std.proofs.lemmas.Option.{none-some}
use Rattle.std.proofs.lemmas.Str.{chars-nil}
use Rattle.dotenvy_base.specs.declared.errors.Error.{Error}
use Rattle.dotenvy_base.specs.declared.errors.Error.TheVariants as error
use Rattle.dotenvy_base.specs.Source.{Ahead}
use Rattle.dotenvy_format.specs.declared.dialect.Dialect.{Dialect}
use Rattle.dotenvy_format.specs.PhysicalLines.{physical_lines}
use Rattle.dotenvy_format.specs.LogicalLine.{Logical, Skip, HasText, StaysOpen as OpenEnd, Broken, IsNext}
use Rattle.dotenvy_format.specs.Outcome.{Outcome, Nothing, Says}
use Rattle.dotenvy_format.specs.Entries.{Entry, Fails, LineParse, Io, outcome_entries, AreFirstLines, Gives, GiveAll}
use Rattle.dotenvy_format.specs.Decided.{HasDecided}
use Rattle.dotenvy_format.proofs.statements.Outcomes.{one_outcome}
use Rattle.dotenvy_lines.specs.declared.lines.Stage.TheVariants.{Open, Ended}
use Rattle.dotenvy_lines.specs.Input.{InputState, IsTold, IsFinal, Moves, end_reads}
use Rattle.dotenvy_lines.specs.Lines.{LinesState, WhereOpen, whole_lines, IsAtEnd, Counts, GoesOn}
use Rattle.dotenvy_lines.specs.Numbered.{FileLine, entries_of, logicals_of, AreNumbered, DecidesNumbered}
use Rattle.dotenvy_lines.specs.Reading.{HasEntriesLeft}
use Rattle.dotenvy_lines.specs.inside.NextLine.{lines_so_far, TakesNext, TakesOutcome, CountsLine, IsUndecided}
use Rattle.dotenvy_lines.specs.inside.NextLine.{AdvanceIs}
use Rattle.dotenvy_lines.specs.inside.Splitter.{SplitterState}
use Rattle.dotenvy_lines.proofs.Inputs.{ahead_of, the_bytes, the_fault, moves_none, moves_both, final_before}
use Rattle.dotenvy_lines.proofs.Inputs.{final_weaker}
use Rattle.dotenvy_lines.proofs.LineEntries.{left_exists, left_once, left_next, no_lines}
use Rattle.dotenvy_lines.proofs.LineEntries.{decided-next, decided-none}
use Rattle.dotenvy_lines.proofs.NumberedLines.{counts_none, counts_more}

-- the next logical line was taken and counted, and gives these entries
pub record TakesLine (dialect : Dialect) (a : Ahead) (t : LinesState) (front : List Entry) (m : LinesState)
    : Type 0 where
  pub next : Logical
  pub count : ℕ
  pub takes : TakesNext a t.input next count m.input
  pub counts : CountsLine t count m
  pub goes_on : GoesOn m
  pub gives : Gives dialect next front

-- the entries of an outcome that is no final fault: those that the text says, or the fault itself
abbrev pub HasEntriesOf : {A : Type 0} → Dialect → Result (Unit {0}) (Error A) → List ℕ → List Entry → Type 0
HasEntriesOf dialect (Ok done) text front =
    (outcome : Outcome) × Says dialect (chars text) outcome × (front ≡ outcome_entries outcome)
HasEntriesOf dialect (Err (error.LineParse line index)) text front =
    front ≡ Fails (LineParse (chars (string_bytes line)) index) ∷ []
HasEntriesOf dialect (Err e) text front = front ≡ Fails (Io InvalidData) ∷ []

-- this logical line was taken and counted, and gives these entries
takes_line : {dialect : Dialect} {a : Ahead} {t m : LinesState} {front : List Entry} {count : ℕ} (next : Logical) →
    TakesNext a t.input next count m.input → CountsLine t count m → GoesOn m → Gives dialect next front →
    TakesLine dialect a t front m
takes_line next takes counts goes_on gives =
    record { next = next; count = _; takes = takes; counts = counts; goes_on = goes_on; gives = gives }

-- an outcome that is no final fault is that of a logical line that was taken, and gives its entries
pub line_taken : (A : Type 0) {dialect : Dialect} {a : Ahead} {t m : LinesState} {front : List Entry} (text : List ℕ)
    (answer : Result (Unit {0}) (Error A)) →
    (count : ℕ) × TakesOutcome a t.input answer text count m.input × CountsLine t count m × GoesOn m →
    HasEntriesOf dialect answer text front → TakesLine dialect a t front m
line_taken A {dialect = dialect} text (Ok done) (count, inl (empty, takes), counts, goes_on) (outcome, says, is) =
    let none = one_outcome dialect [] outcome Nothing (rw (empty, chars-nil) at says) refl in
    takes_line Skip takes counts goes_on (is ∙ ap outcome_entries none)
line_taken A text (Ok done) (count, inr takes, counts, goes_on) gives =
    takes_line (HasText (chars text)) takes counts goes_on gives
line_taken A text (Err (error.LineParse line index)) (count, takes, counts, goes_on) gives =
    takes_line (OpenEnd (chars (string_bytes line)) index) takes counts goes_on gives
line_taken A text (Err (error.Io e)) (count, takes, counts, goes_on) gives =
    takes_line Broken takes.1 counts goes_on gives
line_taken A text (Err e) (count, takes, counts, goes_on) gives = absurd takes

-- a logical line that was taken, as a line of the file with this number
abbrev pub file_line : {dialect : Dialect} {a : Ahead} {t m : LinesState} {front : List Entry} → ℕ →
    TakesLine dialect a t front m → FileLine
file_line {front = front} number line =
    record { number = number; count = line.count; logical = line.next; entries = front }

-- with one more logical line, it follows the others, with the number of its first physical line
numbered_more : (dialect : Dialect) (next : FileLine) (number : ℕ) (all : List (Option (List ℕ))) (count : ℕ)
    (lines : List FileLine) → drop count all ≢ [] → IsNext (drop count all) next.count next.logical →
    Gives dialect next.logical next.entries → next.number ≡ number + count →
    AreNumbered dialect number all count lines →
    AreNumbered dialect number all (count + next.count) (lines ++ next ∷ [])
numbered_more dialect next number all count [] left is_next gives is none =
    let same : number + count ≡ number = omega (arith, none) in
    (rw none at left, 0, is ∙ same, rw none at is_next, gives, refl, omega (arith, none))
numbered_more dialect next number all count (first ∷ others) left is_next gives is
    (some, later, own, is_first, gives_first, are, sum) =
    let more =
    numbered_more dialect next (number + first.count) (drop first.count all) later others
    (rw (sum, ← drop-drop later first.count all) at left) (rw (sum, ← drop-drop later first.count all) at is_next) gives
    (omega (arith, is, sum)) are in
    (some, later + next.count, own, is_first, gives_first, more, omega (arith, sum))

-- numbered lines are the first logical lines, and give their entries
first_numbered : (dialect : Dialect) (number count : ℕ) (physical : List (Option (List ℕ))) (lines : List FileLine) →
    AreNumbered dialect number physical count lines →
    AreFirstLines physical count (logicals_of lines) × GiveAll dialect (logicals_of lines) (entries_of lines)
first_numbered dialect number count physical [] none = (none, refl)
first_numbered dialect number count physical (first ∷ others) (some, later, own, is, gives, are, sum) =
    let rest = first_numbered dialect (number + first.count) later (drop first.count physical) others are in (
      (first.count, later, is, rest.0, sum),
      (first.entries, entries_of others, gives, rest.1, refl),
    )

-- so many physical lines are these lines of a file, and the rest follow
pub record Begins (dialect : Dialect) (number : ℕ) (count : ℕ) (lines : List FileLine)
    (all rest : List (Option (List ℕ))) : Type 0 where
  pub are : AreNumbered dialect number all count lines
  pub rest_is : rest ≡ drop count all

-- with one more logical line, the rest are those after it
pub begins_more : {dialect : Dialect} {number count : ℕ} {lines : List FileLine}
    {all left rest : List (Option (List ℕ))} (next : FileLine) → Begins dialect number count lines all left → left ≢ [] →
    IsNext left next.count next.logical → Gives dialect next.logical next.entries → next.number ≡ number + count →
    rest ≡ drop next.count left → Begins dialect number (count + next.count) (lines ++ next ∷ []) all rest
begins_more {dialect} {number} {count} {lines} {all} next b some is_next gives is rest_is = record {
  are =
      numbered_more dialect next number all count lines (rw b.rest_is at some) (rw b.rest_is at is_next) gives is b.are;
  rest_is = rest_is ∙ rw b.rest_is (drop-drop next.count count all);
}

-- the complete lines of the bytes begin so, and decide their entries, then what the bytes after them decide
pub record Decides (dialect : Dialect) (number : ℕ) (count : ℕ) (lines : List FileLine) (bytes more : List ℕ)
    : Type 0 where
  pub begins : Begins dialect number count lines (lines_so_far bytes) (lines_so_far more)
  pub decide : (decided : List Entry) → HasDecided dialect more decided →
      HasDecided dialect bytes (entries_of lines ++ decided)

-- a splitter at p answers so, and comes to m
pub record Answers {A : Type 0} (p : SplitterState) (answer : Option (Result (Unit {0}) (Error A))) (m : SplitterState)
    : Type 0 where
  pub shut : p.lines.stage ≢ Open → (answer ≡ None) × (m ≡ p)
  pub told : WhereOpen p.lines (λ a. AdvanceIs a p.lines answer m.line m.lines)

-- what the contract of `advance` says
pub answers : {A : Type 0} {p m : SplitterState} {answer : Option (Result (Unit {0}) (Error A))} →
    (p.lines.stage ≢ Open → (answer ≡ None) × (m ≡ p)) →
    WhereOpen p.lines (λ a. AdvanceIs a p.lines answer m.line m.lines) → Answers p answer m
answers shut told = record { shut = shut; told = told }

-- from s on, where a is told, these logical lines were taken, numbered as their physical lines are counted from s, and
-- t has what follows; unless the end was read, the bytes used are these lines whatever follows
pub record Read (dialect : Dialect) (a : Ahead) (s : LinesState) (lines : List FileLine) (t : LinesState)
    : Type 0 where
  pub used : List ℕ
  pub left : List ℕ
  pub moves : Moves a s.input used left t.input
  pub count : ℕ
  pub begins : Begins dialect (s.lines_taken + 1) count lines (whole_lines a) (whole_lines (ahead_of left a.fault))
  pub rest : physical_lines left ≡ drop count (physical_lines a.bytes)
  pub stays : IsAtEnd a.fault left t.input
      ⊎ ((more : List ℕ) → Decides dialect (s.lines_taken + 1) count lines (used ++ more) more)
  pub entries : (after : List Entry) → HasEntriesLeft dialect a.fault left after →
      HasEntriesLeft dialect a.fault a.bytes (entries_of lines ++ after)
  pub goes_on : GoesOn t
  pub counts : Counts s.lines_taken count t.lines_taken

-- no line was taken yet
pub read_none : {dialect : Dialect} {a : Ahead} {s : LinesState} → s.input.left ≡ Some a → s.stage ≡ Open →
    Read dialect a s [] s
read_none {a = a} {s = s} is_left is_open = record {
  used = [];
  left = a.bytes;
  moves = moves_none a s.input is_left;
  count = 0;
  begins = record { are = refl; rest_is = refl };
  rest = refl;
  stays = inr (λ more. record { begins = record { are = refl; rest_is = refl }; decide = λ decided has. has });
  entries = λ after has. has;
  goes_on = inl is_open;
  counts = counts_none s.lines_taken;
}

module _ {dialect : Dialect} {a : Ahead} {s t : LinesState} {lines : List FileLine}
    (k : Read dialect a s lines t) where
  -- one more logical line is taken, and its entries follow
  abbrev pub read_more : {front : List Entry} {m : LinesState} →
      (line : TakesLine dialect (ahead_of k.left a.fault) t front m) →
      Read dialect a s (lines ++ file_line (s.lines_taken + 1 + k.count) line ∷ []) m
  read_more {front} {m} line =
      let takes = line.takes in
      let next = file_line (s.lines_taken + 1 + k.count) line in record {
        used = k.used ++ takes.used;
        left = takes.left;
        moves = moves_both k.moves takes.moves;
        count = k.count + line.count;
        begins = begins_more next k.begins takes.some takes.is_next line.gives refl takes.later;
        rest = takes.rest ∙ rw k.rest (drop-drop line.count k.count (physical_lines a.bytes));
        stays = elim takes.stays [
          | inl ended ↦ inl ended
          | inr always ↦ elim k.stays [
            | inl ended ↦ absurd (takes.some (no_lines a.fault k.left ended.1))
            | inr decide ↦ inr (λ more.
                let d = decide (takes.used ++ more) in
                let n = always.1 more in rw append_assoc (record {
                  begins = begins_more next d.begins n.0 n.1 line.gives refl (sym n.2);
                  decide = λ decided has. simp (flat_map-append, append_assoc)
                      (d.decide (front ++ decided)
                      (decided-next dialect takes.used more line.count line.next front decided always.0 always.1
                      line.gives has));
                }))
          ]
        ];
        entries = λ after has. simp (flat_map-append, append_assoc)
            (k.entries (front ++ after) (left_next dialect a.fault front after takes line.gives has));
        goes_on = line.goes_on;
        counts = counts_more s.lines_taken k.count t.lines_taken line.count m.lines_taken k.counts line.counts.1;
      }

  -- the logical lines that were read are the first ones, and give the entries that were read
  pub lines_read : AreFirstLines (whole_lines a) k.count (logicals_of lines)
      × GiveAll dialect (logicals_of lines) (entries_of lines)
  lines_read = first_numbered dialect (s.lines_taken + 1) k.count (whole_lines a) lines k.begins.are

  -- the entries that are left are those that were read, and then others, which t has left
  pub entries_left : (entries : List Entry) → HasEntriesLeft dialect a.fault a.bytes entries →
      (after : List Entry) × HasEntriesLeft dialect a.fault k.left after × (entries ≡ entries_of lines ++ after)
  entries_left entries has =
      let after = left_exists dialect a.fault k.left in
      (after.0, after.1, left_once dialect a.fault a.bytes entries _ has (k.entries after.0 after.1))

  -- a final fault comes after bytes that decide the entries that were read, and no other
  pub read_final : {A : Type 0} (e : Error A) (m : InputState) →
      IsFinal (ahead_of k.left a.fault) t.input IsUndecided e m →
      IsFinal a s.input (λ bytes. DecidesNumbered dialect (s.lines_taken + 1) bytes lines) e m
  read_final e m =
      final_before a s.input t.input m IsUndecided (λ bytes. DecidesNumbered dialect (s.lines_taken + 1) bytes lines)
      k.used k.left e k.moves.joins k.moves.reads
      (λ kind front later cut why undecided. elim k.stays [
        | inr decide ↦
            let d = decide front in record {
              count = k.count;
              are = d.begins.are;
              rest = rw d.begins.rest_is at undecided;
              decided = rw append-nil at (d.decide [] (decided-none dialect front undecided));
            }
        | inl (no_fault, no_byte, at_end) ↦ elim why [
          | inl told ↦ absurd (none-some kind (sym no_fault ∙ told))
          | inr each ↦
              let read = ap end_reads at_end in
              let empty = ap length (sym cut ∙ no_byte) in
              absurd (omega (arith, each, read, empty, length-append front later))
        ]
      ])

  -- and these decide the entries that were read
  pub read_decided : {A : Type 0} (e : Error A) (m : InputState) →
      IsFinal (ahead_of k.left a.fault) t.input IsUndecided e m →
      IsFinal a s.input (λ bytes. HasDecided dialect bytes (entries_of lines)) e m
  read_decided e m final =
      final_weaker a s.input m (λ bytes. DecidesNumbered dialect (s.lines_taken + 1) bytes lines) _ e
      (λ bytes decides. decides.decided) (read_final e m final)

module _ {A : Type 0} {dialect : Dialect} {a : Ahead} {s : LinesState} {lines : List FileLine}
    {p m : SplitterState} (told : IsTold s.input.left a) (k : Read dialect a s lines p.lines) where
  -- an outcome that the splitter gives is that of the next line of what is left
  pub next_outcome : {outcome : Result (Unit {0}) (Error A)} → Answers p (Some outcome) m →
      AdvanceIs (ahead_of k.left a.fault) p.lines (Some outcome) m.line m.lines
  next_outcome {outcome} answers = elim k.goes_on [
    | inl is_open ↦ answers.told (ahead_of k.left a.fault) is_open (k.moves.is_left, told.1)
    | inr (ended, nothing) ↦ absurd (none-some outcome (sym (answers.shut (λ h. cc)).0))
  ]

  -- where it gives none, it has ended: nothing is left, and no fault
  pub read_end : Answers {A = A} p None m → (k.left ≡ []) × (a.fault ≡ None) × (m.lines.stage ≡ Ended)
  read_end answers = elim k.goes_on [
    | inl is_open ↦ answers.told (ahead_of k.left a.fault) is_open (k.moves.is_left, told.1)
    | inr (ended, nothing) ↦
        let same : Some (ahead_of k.left a.fault) ≡ Some (ahead_of [] None) = sym k.moves.is_left ∙ nothing in
        (the_bytes _ _ same, the_fault _ _ same, rw (answers.shut (λ h. cc)).1 ended)
  ]
