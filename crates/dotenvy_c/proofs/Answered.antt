-- The answer to an edit, from what came of it.
use Rattle.std.proofs.Common.{ℕ, ◌≡◌, List, false, true, inl, inr, sym, ◌∙◌}
use Rattle.std.proofs.lemmas.Bool.{false≢true}
use Rattle.std.proofs.lemmas.Str.{is_utf8-from_IsUtf8}
use Rattle.std.specs.Prelude.{Result, Ok, Err, IfOk, IfErr}
use Rattle.std.specs.Str.{is_utf8, IsUtf8}
use Rattle.std.specs.declared.alloc.Global.{Global}
use Rattle.dotenvy_editor.specs.declared.refusal.Reason.{Reason}
use Rattle.dotenvy_editor.specs.declared.refusal.Unedited.{Unedited}
use Rattle.dotenvy_editor.specs.declared.refusal.Unedited.TheVariants.{Refused, Memory}
use Rattle.dotenvy_editor.specs.declared.warning.Edited.{Edited}
use Rattle.dotenvy_editor.specs.Refusals.{IsRefused}
use Rattle.dotenvy_c.specs.declared.edit.Edit.{Edit}
use Rattle.dotenvy_c.specs.Edit.{AnswersEdit, Buffers, TellsOutcome}
use Rattle.dotenvy_c.proofs.Entries.{is_no_utf8}

-- what came of an edit is told, so it is answered
pub answered : {P : Edited Global → Type 0} {R : Reason → ℕ → Type 0} (outcome : Result (Edited Global) Unedited)
    {edit : Edit} {old new : Buffers} → IfOk outcome P → IfErr outcome (IsRefused R) →
    TellsOutcome outcome edit old new → AnswersEdit P R edit old new
answered (Ok edited) is none (inl told) = inl (edited, is, told)
answered (Ok edited) is none (inr memory) = inr (inr memory)
answered (Err (Refused refusal)) none is told = inr (inl (refusal.reason, refusal.line, is, told))
answered (Err (Memory failed)) none is told = inr (inr told)

-- no bytes are a text and none
pub no_text_is_text : (bytes : List ℕ) → ¬ (IsUtf8 bytes) → ¬ (is_utf8 bytes ≡ true)
no_text_is_text bytes denied text = false≢true (sym (is_no_utf8 bytes denied) ∙ text)

-- and a text is no other bytes
pub text_is_text : (bytes : List ℕ) → IsUtf8 bytes → ¬ (is_utf8 bytes ≡ false)
text_is_text bytes text denied = false≢true (sym denied ∙ is_utf8-from_IsUtf8 bytes text)
