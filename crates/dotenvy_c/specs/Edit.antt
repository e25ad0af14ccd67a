-- What an edit tells C, and what it writes.
use Rattle.std.specs.Prelude.{ℕ, ◌≡◌, ◌≤◌, ◌⊎◌, ◌↔◌, false, IsTrue, List, [], ◌∷◌, length}
use Rattle.std.specs.Prelude.{Result, Ok, Err}
use Rattle.std.specs.declared.alloc.Global.{Global}
use Rattle.dotenvy_editor.specs.declared.refusal.Reason.{Reason}
use Rattle.dotenvy_editor.specs.declared.refusal.Unedited.{Unedited}
use Rattle.dotenvy_editor.specs.declared.refusal.Unedited.TheVariants.{Refused, Memory}
use Rattle.dotenvy_editor.specs.declared.warning.Edited.{Edited}
use Rattle.dotenvy_c.specs.declared.edit.Edit.{Edit}
use Rattle.dotenvy_c.specs.declared.warnings.ToldWarning.{ToldWarning}
use Rattle.dotenvy_c.specs.Buffer.{written_if}
use Rattle.dotenvy_c.specs.Refused.{reason_status}
use Rattle.dotenvy_c.specs.Warnings.{edit_bytes, edit_warnings, warning_names}

-- what is in the caller's two buffers: that for records of warnings, and that for bytes
pub record Buffers : Type 0 where
  pub warnings : List ToldWarning
  pub out : List ℕ

-- buffers with these records and bytes
abbrev pub buffers : List ToldWarning → List ℕ → Buffers
buffers warnings out = record { warnings = warnings; out = out }

-- nothing was written, for the reason and at the line that are told
abbrev pub refused_edit : ℕ → ℕ → Edit
refused_edit status line = record {
  status = status;
  fits = false;
  line = line;
  file_len = 0;
  names_len = 0;
  warnings = 0;
  reserved = 0 ∷ 0 ∷ [];
}

-- an edit is refused, for the reason that this status names, at this line, and writes nothing
abbrev pub RefusesEdit : ℕ → ℕ → Edit → Buffers → Buffers → Type 0
RefusesEdit status line edit old new = (edit ≡ refused_edit status line) × (new ≡ old)

-- what is told and written of an edited file: its bytes, the names of its warnings after them, and
-- their records stand in the buffers where all fit, and their numbers are told
pub record TellsEdited (edited : Edited Global) (edit : Edit) (old new : Buffers) : Type 0 where
  pub status : edit.status ≡ 0
  pub line : edit.line ≡ 0
  pub file_len : edit.file_len ≡ length edited.bytes.items
  pub names_len : edit.names_len ≡ length (warning_names edited.warnings.items)
  pub warnings : edit.warnings ≡ length edited.warnings.items
  pub reserved : edit.reserved ≡ 0 ∷ 0 ∷ []
  pub fits :
      IsTrue edit.fits
      ↔ ((length edited.warnings.items ≤ length old.warnings)
      × (length (edit_bytes edited) ≤ length old.out))
  pub records : new.warnings ≡ written_if edit.fits (edit_warnings edited) old.warnings
  pub bytes : new.out ≡ written_if edit.fits (edit_bytes edited) old.out

-- what is told and written of what came of an edit; a file can need more memory than there is
abbrev pub TellsOutcome : Result (Edited Global) Unedited → Edit → Buffers → Buffers → Type 0
TellsOutcome (Ok edited) edit old new =
    TellsEdited edited edit old new ⊎ RefusesEdit 5 0 edit old new
TellsOutcome (Err (Refused refusal)) edit old new =
    RefusesEdit (reason_status refusal.reason) refusal.line edit old new
TellsOutcome (Err (Memory failed)) edit old new = RefusesEdit 5 0 edit old new

-- the answer to an edit that gives an edited file of which P holds, or is refused for a reason and
-- at a line of which R holds
abbrev pub AnswersEdit : (Edited Global → Type 0) → (Reason → ℕ → Type 0) → Edit → Buffers →
    Buffers → Type 0
AnswersEdit P R edit old new =
    ((edited : Edited Global) × P edited × TellsEdited edited edit old new)
    ⊎ ((reason : Reason) × (line : ℕ) × R reason line
    × RefusesEdit (reason_status reason) line edit old new)
    ⊎ RefusesEdit 5 0 edit old new
