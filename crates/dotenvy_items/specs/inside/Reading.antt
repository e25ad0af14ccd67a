-- What an iterator reads and remembers, without the lines of its last item.
use Rattle.std.specs.Prelude.{ℕ, List, refl}
use Rattle.std.specs.Coded.{Coded, code_by, coded×, coded_ℕ, coded_list, coded_option}
use Rattle.std.specs.FinMap as fin
use Rattle.dotenvy_format.specs.declared.dialect.Dialect.{Dialect}
use Rattle.dotenvy_format.specs.contracts.dialect.Dialect as dialect
use Rattle.dotenvy_lines.specs.Lines.{LinesState, lines_code}
use Rattle.dotenvy_items.specs.Iter.{IterState, state_of}
use Rattle.dotenvy_items.specs.Remembered.{Remembered}

-- its logical lines, the bytes of the last one's text, the values it remembers, and the dialect
pub record ReadingState : Type 0 where
  pub lines : LinesState
  pub line : List ℕ
  pub remembered : Remembered
  pub dialect : Dialect

-- the state of a reading as a tuple
abbrev pub reading_code : Coded ReadingState
reading_code =
    code_by (LinesState × (List ℕ × (Remembered × Dialect)))
    (coded× lines_code
    (coded× (coded_list coded_ℕ)
    (coded× (fin.code (coded_list coded_ℕ) (coded_option (coded_list coded_ℕ)))
    dialect.the_row.coded)))
    (λ s. (s.lines, (s.line, (s.remembered, s.dialect))))
    (λ p. record { lines = p.0; line = p.1.0; remembered = p.1.1.0; dialect = p.1.1.1 })
    (λ _. refl)

-- the state of an iterator that reads this, and whose last item is on these lines
abbrev pub reads_on : ReadingState → ℕ × ℕ → IterState
reads_on s item_lines = state_of s.lines s.remembered s.dialect item_lines
