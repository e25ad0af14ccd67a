-- How the next logical line is taken, and what the splitter gives for it.
use Rattle.dotenvy_lines.specs.Input.{InputState, Moves}
use Rattle.dotenvy_lines.specs.Lines.{whole_lines, LinesState, Counts, IsAtEnd, GoesOn, FailsFor}
use Rattle.std.specs.Prelude.{ℕ, ◌≡◌, ◌≢◌, ◌⊎◌, ◌++◌, List, [], drop, Option, Some, None, Result, Ok, Err, string_bytes}
use Rattle.std.specs.Str.{chars}
use Rattle.std.specs.IoError.{error_kind}
use Rattle.std.specs.declared.string.String.{String}
use Rattle.std.specs.declared.io.ErrorKind.TheVariants.{InvalidData}
use Rattle.dotenvy_base.specs.declared.errors.Error.{Error}
use Rattle.dotenvy_base.specs.declared.errors.Error.TheVariants.{LineParse, Io, EnvVar, Nul, Memory}
use Rattle.dotenvy_lines.specs.declared.lines.Stage.TheVariants.{Ended}
use Rattle.dotenvy_base.specs.Source.{Ahead}
use Rattle.dotenvy_format.specs.PhysicalLines.{physical_lines, line_texts}
use Rattle.dotenvy_format.specs.Decided.{up_to_last_line_feed}
use Rattle.dotenvy_format.specs.LogicalLine.{Logical, Skip, HasText, StaysOpen, Broken, IsNext, IsOpenEnd}

-- the physical lines that are complete in the bytes read so far: those up to the last line feed
abbrev pub lines_so_far : List ℕ → List (Option (List ℕ))
lines_so_far bytes = line_texts (up_to_last_line_feed bytes)

-- whatever follows the bytes, the next logical line is this one, and they are its physical lines,
-- so many
abbrev pub IsNextAlways : List ℕ → ℕ → Logical → Type 0
IsNextAlways bytes count next =
    (more : List ℕ) →
    (lines_so_far (bytes ++ more) ≢ []) × IsNext (lines_so_far (bytes ++ more)) count next
    × (drop count (lines_so_far (bytes ++ more)) ≡ lines_so_far more)

-- the next logical line was taken, which is so many physical lines, and the bytes after these are
-- left. Unless the end of input was read, the used bytes are that line whatever follows; a line
-- that stays open is one at the end of input alone
pub record TakesNext (a : Ahead) (s : InputState) (next : Logical) (count : ℕ) (t : InputState) :
    Type 0 where
  pub some : whole_lines a ≢ []
  pub is_next : IsNext (whole_lines a) count next
  pub open_at_end : IsOpenEnd next → a.fault ≡ None
  pub used : List ℕ
  pub left : List ℕ
  pub moves : Moves a s used left t
  pub rest : physical_lines left ≡ drop count (physical_lines a.bytes)
  pub later : whole_lines (record { bytes = left; fault = a.fault }) ≡ drop count (whole_lines a)
  pub stays : IsAtEnd a.fault left t ⊎ ((IsOpenEnd next → ⊥) × IsNextAlways used count next)

-- in the bytes read so far no logical line is complete: the first one would stay open
abbrev pub IsUndecided : List ℕ → Type 0
IsUndecided bytes =
    (count : ℕ) (next : Logical) → lines_so_far bytes ≢ [] →
    IsNext (lines_so_far bytes) count next → IsOpenEnd next

-- a logical line of so many physical lines is counted; its first one is that after those taken
-- before
abbrev pub CountsLine : LinesState → ℕ → LinesState → Type 0
CountsLine s count t =
    Counts s.lines_taken 1 t.first_line × Counts s.lines_taken count t.lines_taken

-- the next logical line was taken, and is an error: it stays open, with its text and length, or it
-- isn't UTF-8
abbrev pub TakesFault : {A : Type 0} → Ahead → InputState → Error A → ℕ → InputState → Type 0
TakesFault a s (LineParse text index) count t =
    TakesNext a s (StaysOpen (chars (string_bytes text)) index) count t
TakesFault a s (Io e) count t = (error_kind e ≡ InvalidData) × TakesNext a s Broken count t
TakesFault a s (EnvVar e) count t = ⊥
TakesFault a s (Nul key) count t = ⊥
TakesFault a s (Memory e) count t = ⊥

-- the next logical line was taken, and left its text: the empty text where the line is skipped; or
-- it is an error
abbrev pub TakesOutcome : {A : Type 0} → Ahead → InputState → Result (Unit {0}) (Error A) → List ℕ →
    ℕ → InputState → Type 0
TakesOutcome a s (Ok _) line count t =
    ((line ≡ []) × TakesNext a s Skip count t) ⊎ TakesNext a s (HasText (chars line)) count t
TakesOutcome a s (Err e) line count t = TakesFault a s e count t

-- what an open splitter gives where a is left: the end, the next line and its text, or a final
-- fault
abbrev pub AdvanceIs : {A : Type 0} → Ahead → LinesState → Option (Result (Unit {0}) (Error A)) →
    List ℕ → LinesState → Type 0
AdvanceIs a s None line t = (a.bytes ≡ []) × (a.fault ≡ None) × (t.stage ≡ Ended)
AdvanceIs a s (Some r) line t =
    ((count : ℕ) × TakesOutcome a s.input r line count t.input × CountsLine s count t × GoesOn t)
    ⊎ FailsFor a s.input r IsUndecided t

-- a line that is given as a separate text, as the result of `advance`
abbrev pub outcome_of : {A : Type 0} → Option (Result (String A) (Error A)) →
    Option (Result (Unit {0}) (Error A))
outcome_of None = None
outcome_of (Some (Ok text)) = Some (Ok tt)
outcome_of (Some (Err e)) = Some (Err e)

-- the text that is given, or the empty one
abbrev pub given_text : {A : Type 0} → Option (Result (String A) (Error A)) → List ℕ
given_text None = []
given_text (Some (Ok text)) = string_bytes text
given_text (Some (Err e)) = []
