-- One step of a replacement after another.
use Rattle.std.proofs.Common.{◌≡◌, ◌∙◌, ℕ, true, List, Option, Some, None, Result, Ok, Err, refl}
use Rattle.std.specs.declared.io.Error.{Error}
use Rattle.dotenvy_edit_command.specs.declared.step.Step.{Step}
use Rattle.dotenvy_edit_command.specs.declared.step.Step.TheVariants as step
use Rattle.dotenvy_edit_command.specs.Replacing.{IsEmpty, IsReady, Known, Leaves, LeavesWritten}
use Rattle.dotenvy_edit_command.specs.Replacing.{empty_new, told, with_bytes, with_owner, with_permissions, with_sync}

-- a step that is told as done is done
pub told_done : (step : Step) (outcome : Result (Unit {0}) Error) (done : Unit {0}) → told step outcome ≡ Ok done →
    outcome ≡ Ok tt
told_done step (Ok done) other is = refl
told_done step (Err fault) other is = cc

-- a new file that can take the place of the old one, beside what is known
abbrev pub ready : List ℕ → Known → Known
ready bytes known =
    record known {
      beside = Some (record { bytes = bytes; is_owned = true; is_permitted = true; is_synced = true });
    }

-- the new file is ready once each of these steps is done
pub ready_by : (bytes : List ℕ) (known : Known) (written owned permitted synced : Option Known) →
    known.beside ≡ Some empty_new → written ≡ Some (with_bytes bytes known) →
    Leaves step.Owner with_owner written owned (Ok tt) →
    Leaves step.Permissions with_permissions owned permitted (Ok tt) →
    Leaves step.Sync with_sync permitted synced (Ok tt) → synced ≡ Some (ready bytes known)
ready_by bytes known written owned permitted synced empty w o p s =
    let is_owned = rw w at o in
    let is_permitted = rw is_owned at p in
    let is_synced = rw is_permitted at s in
    is_synced ∙ rw empty refl

-- where nothing is known, or a new file is ready, it can be put in place
pub is_ready : (bytes : List ℕ) (before written owned permitted synced : Option Known) → IsEmpty before →
    LeavesWritten bytes before written (Ok tt) → Leaves step.Owner with_owner written owned (Ok tt) →
    Leaves step.Permissions with_permissions owned permitted (Ok tt) →
    Leaves step.Sync with_sync permitted synced (Ok tt) → IsReady synced
is_ready bytes None written owned permitted synced empty w o p s =
    rw (rw (rw (rw w at o) at p) at s) tt
is_ready bytes (Some known) written owned permitted synced empty w o p s =
    rw (ready_by bytes known written owned permitted synced empty w o p s) (bytes, refl)
