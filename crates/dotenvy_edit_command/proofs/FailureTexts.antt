-- What is printed of a value that has no portable form, and the status of a failure.
use Rattle.std.proofs.Common.{◌≡◌, ◌<◌, ◌++◌, ℕ, arith, codes, refl}
use Rattle.clap.specs.Words.{Text}
use Rattle.dotenvy_editor.specs.declared.refusal.Reason.TheVariants as reason
use Rattle.dotenvy_editor.specs.declared.refusal.Unportable.{Unportable}
use Rattle.dotenvy_editor.specs.declared.refusal.Unportable.TheVariants as form
use Rattle.dotenvy_edit_command.specs.declared.failure.Failure.{Failure}
use Rattle.dotenvy_edit_command.specs.declared.failure.Failure.TheVariants as failure
use Rattle.dotenvy_edit_command.specs.declared.failure.Usage.{Usage}
use Rattle.dotenvy_edit_command.specs.Ends.{IsWrongCall}
use Rattle.dotenvy_edit_command.specs.Failures.{failure_status, form_text, of_text, reason_text}

-- the value is told, unless it is what stands around it
pub value_told : (file name : Text) (line : ℕ) (why : Unportable) → ¬ (why ≡ form.Mark) →
    ¬ (why ≡ form.WhiteSpace) → ¬ (why ≡ form.Comment) →
    reason_text file name line (reason.Unportable why)
    ≡ of_text name (codes "the value has no portable form, since it has " ++ form_text why)
value_told file name line form.CarriageReturn not_mark not_white not_comment = refl
value_told file name line form.Apostrophe not_mark not_white not_comment = refl
value_told file name line form.LineFeed not_mark not_white not_comment = refl
value_told file name line form.Backslashes not_mark not_white not_comment = refl
value_told file name line form.LastBackslash not_mark not_white not_comment = refl
value_told file name line form.Substitution not_mark not_white not_comment = refl
value_told file name line form.Mark not_mark not_white not_comment = absurd (not_mark refl)
value_told file name line form.WhiteSpace not_mark not_white not_comment = absurd (not_white refl)
value_told file name line form.Comment not_mark not_white not_comment = absurd (not_comment refl)

-- a status is at most two
pub few_statuses : {A : Type 0} (failed : Failure A) → failure_status failed < 3
few_statuses (failure.Value place) = omega arith
few_statuses (failure.Refused place refusal) = omega arith
few_statuses (failure.Stops place line) = omega arith
few_statuses other = omega arith

-- what is no wrong call
pub not_wrong : {A : Type 0} (failed : Failure A) → ((call : Usage A) → failed ≡ failure.Usage call → ⊥) →
    IsWrongCall failed → ⊥
not_wrong (failure.Usage call) not wrong = not call refl
not_wrong other not wrong = wrong
