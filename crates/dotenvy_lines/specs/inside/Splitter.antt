-- The state of a splitter, and the lines that it tells.
use Rattle.dotenvy_lines.specs.Lines.{LinesState, lines_code, no_line}
use Rattle.std.specs.Prelude.{ℕ, List, refl}
use Rattle.std.specs.Coded.{Coded, code_by, coded×, coded_ℕ, coded_list}
use Rattle.dotenvy_lines.specs.declared.lines.Stage.{Stage}
use Rattle.dotenvy_lines.specs.declared.lines.Stage.TheVariants.{Open, Ended, Failed}

-- a splitter: the logical lines that are left, and the bytes of the last one's text
pub record SplitterState : Type 0 where
  pub lines : LinesState
  pub line : List ℕ

-- the state of a splitter, as a tuple
abbrev pub splitter_code : Coded SplitterState
splitter_code =
    code_by (LinesState × List ℕ) (coded× lines_code (coded_list coded_ℕ))
    (λ s. (s.lines, s.line)) (λ p. record { lines = p.0; line = p.1 }) (λ _. refl)

-- these lines, unless the splitter failed: a final fault is on no line
abbrev pub lines_unless_failed : Stage → ℕ → ℕ → ℕ × ℕ
lines_unless_failed Open first last = (first, last)
lines_unless_failed Ended first last = (first, last)
lines_unless_failed Failed first last = no_line

-- the first and the last physical line of the last logical line; none after a final fault
abbrev pub last_lines : LinesState → ℕ × ℕ
last_lines s = lines_unless_failed s.stage s.first_line s.lines_taken
