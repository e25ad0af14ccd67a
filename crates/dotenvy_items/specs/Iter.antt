-- What an iterator over pairs has left, and what it remembers.
use Rattle.std.specs.Prelude.{ℕ, ◌≡◌, Result, refl}
use Rattle.std.specs.Coded.{Coded, code_by, coded×, coded_ℕ, coded_list, coded_option}
use Rattle.std.specs.FinMap as fin
use Rattle.dotenvy_format.specs.declared.dialect.Dialect.{Dialect}
use Rattle.dotenvy_format.specs.contracts.dialect.Dialect as dialect
use Rattle.dotenvy_base.specs.Source.{Ahead, Told}
use Rattle.dotenvy_base.specs.declared.errors.Error.{Error}
use Rattle.dotenvy_lines.specs.declared.lines.Stage.TheVariants.{Open, Failed}
use Rattle.dotenvy_lines.specs.Input.{most_reads, AsksReads, DropsMark, IsTold}
use Rattle.dotenvy_lines.specs.Lines.{LinesState, lines_code, lines_measure, WhereOpen, fresh_lines, no_line}
use Rattle.dotenvy_items.specs.Remembered.{Remembered, with_values}
use Rattle.dotenvy_base.specs.Environment.{Texts}

-- its logical lines, the values that it remembers, the dialect that it reads, and the first and the
-- last physical line of the last item, counted from 1
pub record IterState : Type 0 where
  pub lines : LinesState
  pub remembered : Remembered
  pub dialect : Dialect
  pub item_lines : ℕ × ℕ

-- the state of an iterator as a tuple
abbrev pub iter_code : Coded IterState
iter_code =
    code_by (LinesState × (Remembered × (Dialect × (ℕ × ℕ))))
    (coded× lines_code
    (coded× (fin.code (coded_list coded_ℕ) (coded_option (coded_list coded_ℕ)))
    (coded× dialect.the_row.coded (coded× coded_ℕ coded_ℕ))))
    (λ s. (s.lines, (s.remembered, (s.dialect, s.item_lines))))
    (λ p. record { lines = p.0; remembered = p.1.0; dialect = p.1.1.0; item_lines = p.1.1.1 })
    (λ _. refl)

-- the state of an iterator, from its parts
abbrev pub state_of : LinesState → Remembered → Dialect → ℕ × ℕ → IterState
state_of lines remembered dialect item_lines = record {
  lines = lines;
  remembered = remembered;
  dialect = dialect;
  item_lines = item_lines;
}

-- nothing was read of a source that tells this, and nothing is remembered
abbrev pub fresh : Told → Dialect → IterState
fresh told dialect = record {
  lines = fresh_lines told most_reads;
  remembered = fin.empty;
  dialect = dialect;
  item_lines = no_line;
}

-- it reads on: it has neither ended nor failed
abbrev pub IsOpen : IterState → Type 0
IsOpen s = s.lines.stage ≡ Open

-- it has failed, and gives nothing more
abbrev pub HasFailed : IterState → Type 0
HasFailed s = s.lines.stage ≡ Failed

-- its source tells that this is left
abbrev pub TellsLeft : IterState → Ahead → Type 0
TellsLeft s a = IsTold s.lines.input.left a

-- the reads that are asked for on the way from s to t
abbrev pub AsksBetween : IterState → IterState → Type 0
AsksBetween s t = AsksReads (IsOpen t) s.lines.input t.lines.input

-- where it is open, a byte order mark that its source tells next is dropped
abbrev pub DropsNextMark : {A : Type 0} → IterState → Result (Unit {0}) (Error A) → IterState →
    Type 0
DropsNextMark s answer t = WhereOpen s.lines (λ a. DropsMark a s.lines.input answer t.lines.input)

-- the measure of loops over items: it falls with each item that is given
abbrev pub items_measure : IterState → ℕ
items_measure s = lines_measure s.lines

-- what is remembered and the dialect are as they were
abbrev pub KeepsRemembered : IterState → IterState → Type 0
KeepsRemembered s t = t ≡ record s { lines = t.lines; item_lines = t.item_lines }

-- what was remembered, the dialect, the lines of the last item and the number of lines taken are as
-- they were
abbrev pub KeepsItems : IterState → IterState → Type 0
KeepsItems s t =
    (t ≡ record s { lines = t.lines }) × (t.lines.lines_taken ≡ s.lines.lines_taken)

-- these values are remembered, each in the place of an earlier one
abbrev pub remembering : Texts → IterState → IterState
remembering names s = record s { remembered = with_values (fin.entries names) s.remembered }
