-- The state of an iterator over logical lines, and when it goes on, ends or fails.
use Rattle.std.specs.Prelude.{ℕ, true, false, ◌≡◌, ◌⊎◌, ◌+◌, ◌^◌, ◌<◌, List, [], Option, Some, None}
use Rattle.std.specs.Prelude.{Result, Ok, Err, refl}
use Rattle.std.specs.declared.io.ErrorKind.{ErrorKind}
use Rattle.std.specs.Coded.{Coded, code_by, coded×, coded_ℕ}
use Rattle.dotenvy_base.specs.declared.errors.Error.{Error}
use Rattle.dotenvy_lines.specs.declared.lines.Stage.{Stage}
use Rattle.dotenvy_lines.specs.declared.lines.Stage.TheVariants.{Open as stage_open, Ended, Failed}
use Rattle.dotenvy_lines.specs.contracts.lines.Stage as stage
use Rattle.dotenvy_base.specs.Source.{Ahead, Told}
use Rattle.dotenvy_format.specs.PhysicalLines.{line_texts}
use Rattle.dotenvy_format.specs.Decided.{up_to_last_line_feed}
use Rattle.dotenvy_lines.specs.Input.{InputState, input_code, IsTold, IsFinal, input_measure}

-- the bytes of the complete lines: all, or those up to the last line feed where a fault follows
abbrev pub whole_before : Option ErrorKind → List ℕ → List ℕ
whole_before None bytes = bytes
whole_before (Some kind) bytes = up_to_last_line_feed bytes

-- the physical lines that are complete in what a source tells
abbrev pub whole_lines : Ahead → List (Option (List ℕ))
whole_lines a = line_texts (whole_before a.fault a.bytes)

-- an iterator over logical lines: what it has left; whether it is open, has ended or has failed;
-- how many physical lines were taken; and the number, counted from 1, of the first physical line of
-- the last logical line
pub record LinesState : Type 0 where
  pub input : InputState
  pub stage : Stage
  pub lines_taken : ℕ
  pub first_line : ℕ

-- the state of logical lines, as a tuple
abbrev pub lines_code : Coded LinesState
lines_code =
    code_by (InputState × (Stage × (ℕ × ℕ)))
    (coded× input_code (coded× stage.the_row.coded (coded× coded_ℕ coded_ℕ)))
    (λ s. (s.input, (s.stage, (s.lines_taken, s.first_line))))
    (λ p. record { input = p.0; stage = p.1.0; lines_taken = p.1.1.0; first_line = p.1.1.1 })
    (λ _. refl)

-- the new number is so many more than the old one, as long as 64 bits hold it
abbrev pub Counts : ℕ → ℕ → ℕ → Type 0
Counts old more new = old + more < 2 ^ 64 → new ≡ old + more

-- one more than this while lines are open, and 0 once they have ended or failed
abbrev pub stage_measure : Stage → ℕ → ℕ
stage_measure stage_open n = n + 1
stage_measure Ended n = 0
stage_measure Failed n = 0

-- the measure of loops over logical lines: it falls with each line that is taken
abbrev pub lines_measure : LinesState → ℕ
lines_measure s = stage_measure s.stage (input_measure s.input)

-- if the iterator is open, this holds of what its source tells is left
abbrev pub WhereOpen : LinesState → (Ahead → Type 0) → Type 0
WhereOpen s P = (a : Ahead) → s.stage ≡ stage_open → IsTold s.input.left a → P a

-- the end of input was read without a fault, and no byte is left
abbrev pub IsAtEnd : Option ErrorKind → List ℕ → InputState → Type 0
IsAtEnd fault left t = (fault ≡ None) × (left ≡ []) × (t.at_end ≡ true)

-- the iterator is open, or has ended with nothing left
abbrev pub GoesOn : LinesState → Type 0
GoesOn t =
    (t.stage ≡ stage_open)
    ⊎ ((t.stage ≡ Ended) × (t.input.left ≡ Some (record { bytes = []; fault = None })))

-- the result is a final fault: the iterator has failed, and P holds of the bytes before the fault
abbrev pub FailsFor : {T A : Type 0} → Ahead → InputState → Result T (Error A) → (List ℕ → Type 0) →
    LinesState → Type 0
FailsFor a s (Ok x) P t = ⊥
FailsFor a s (Err e) P t = (t.stage ≡ Failed) × IsFinal a s P e t.input

-- the first and the last line of what is on no line, as a final fault
abbrev pub no_line : ℕ × ℕ
no_line = (0, 0)

-- an iterator before its first read: all that its source tells is left, with so many reads to make
abbrev pub fresh_lines : Told → ℕ → LinesState
fresh_lines told reads = record {
  input = record {
    left = told.ahead;
    unread = 0;
    reads = reads;
    at_end = false;
    calls = told.calls;
    references = told.references;
  };
  stage = stage_open;
  lines_taken = 0;
  first_line = 0;
}
