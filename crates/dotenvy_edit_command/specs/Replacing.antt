-- How a file is replaced whole: what each step leaves, and what all of them do.
use Rattle.std.specs.Prelude.{ℕ, ◌≡◌, Bool, true, false, List, [], ◌∷◌, ◌++◌, Option, Some, None}
use Rattle.std.specs.Prelude.{Result, Ok, Err, if◌then◌else◌, is_some, slice_get}
use Rattle.std.specs.Option.{option_map}
use Rattle.std.specs.IoError.{error_kind}
use Rattle.std.specs.declared.io.Error.{Error}
use Rattle.std.specs.declared.io.ErrorKind.{ErrorKind}
use Rattle.std.specs.declared.vec.Vec.{Vec}
use Rattle.dotenvy_edit_command.specs.declared.step.Step.{Step}
use Rattle.dotenvy_edit_command.specs.declared.step.Step.TheVariants.{Write, SyncFolder, Remove}
use Rattle.dotenvy_edit_command.specs.declared.step.Unreplaced.{Unreplaced}

-- a new file beside the one whose place it is to take: its bytes, whether it has the owner and the
-- permissions of that one, and whether all of it is on the disk
pub record Beside : Type 0 where
  pub bytes : List ℕ
  pub is_owned : Bool
  pub is_permitted : Bool
  pub is_synced : Bool

-- what is known of a file that is to be replaced: the path by which it was found, and whether it may
-- be absent, once it is found; the bytes that it has had, the latest first, or none while it is
-- absent; the new file beside it, if this call made one; whether the disk has the folder as it is; and
-- the steps that failed, the latest first, each with the kind of its error
pub record Known : Type 0 where
  pub found : Option (List ℕ × Bool)
  pub past : List (List ℕ)
  pub beside : Option Beside
  pub is_synced : Bool
  pub faults : List (Step × ErrorKind)

-- the file that this path leads to is found; or there is none, and all stays
abbrev pub Locates : List ℕ → Bool → Option Known → Option Known → Result (Unit {0}) Error → Type 0
Locates path may_be_absent None after result = after ≡ None
Locates path may_be_absent (Some known) after (Ok done) =
    after ≡ Some (record known { found = Some (path, may_be_absent) })
Locates path may_be_absent (Some known) after (Err fault) = after ≡ Some known

-- all bytes of the file were read, or it is absent, if anything is known of it
abbrev pub HasRead : {A : Type 0} → Option Known → Option (Vec ℕ A) → Type 0
HasRead None bytes = Unit {0}
HasRead (Some known) bytes = option_map (λ b. b.items) bytes ≡ slice_get known.past 0

-- a new file that was just made
abbrev pub empty_new : Beside
empty_new = record { bytes = []; is_owned = false; is_permitted = false; is_synced = false }

-- a new file is there, and it is empty
abbrev pub with_new : Known → Known
with_new known = record known { beside = Some empty_new }

-- the new file is changed so
abbrev pub changed : (Beside → Beside) → Known → Known
changed change known = record known { beside = option_map change known.beside }

-- more bytes are behind those of the new file
abbrev pub with_bytes : List ℕ → Known → Known
with_bytes bytes known =
    changed (λ new. record new { bytes = new.bytes ++ bytes; is_synced = false }) known

-- the new file has the owner of the old one, which can take permissions away
abbrev pub with_owner : Known → Known
with_owner known =
    changed (λ new. record new { is_owned = true; is_permitted = false; is_synced = false }) known

-- the new file has the permissions of the old one
abbrev pub with_permissions : Known → Known
with_permissions known =
    changed (λ new. record new { is_permitted = true; is_synced = false }) known

-- all of the new file is on the disk
abbrev pub with_sync : Known → Known
with_sync known = changed (λ new. record new { is_synced = true }) known

-- the file has these bytes, as the new file took its place, and the disk need not have that yet
abbrev pub put : List ℕ → Known → Known
put bytes known =
    record known { past = bytes ∷ known.past; beside = None; is_synced = false }

-- the new file, if it is there, takes the place of the old one
abbrev pub placed : Option Beside → Known → Known
placed None known = known
placed (Some new) known = put new.bytes known

-- the new file takes the place of the old one
abbrev pub in_place : Known → Known
in_place known = placed known.beside known

-- the folder is on the disk
abbrev pub with_folder : Known → Known
with_folder known = record known { is_synced = true }

-- the new file is gone
abbrev pub without_new : Known → Known
without_new known = record known { beside = None }

-- a step has failed
abbrev pub with_fault : Step → Error → Known → Known
with_fault step fault known = record known { faults = (step, error_kind fault) ∷ known.faults }

-- a step that is done changes what is known so, and one that fails leaves all as it was
abbrev pub after_step : Step → (Known → Known) → Result (Unit {0}) Error → Known → Known
after_step step change (Ok done) known = change known
after_step step change (Err fault) known = with_fault step fault known

-- what a step leaves; where nothing is known, nothing is known then
abbrev pub Leaves : Step → (Known → Known) → Option Known → Option Known →
    Result (Unit {0}) Error → Type 0
Leaves step change None after result = after ≡ None
Leaves step change (Some known) after result = after ≡ Some (after_step step change result known)

-- what the write leaves, likewise: a first part of the bytes is written if it fails
abbrev pub LeavesWritten : List ℕ → Option Known → Option Known → Result (Unit {0}) Error →
    Type 0
LeavesWritten bytes None after result = after ≡ None
LeavesWritten bytes (Some known) after (Ok done) = after ≡ Some (with_bytes bytes known)
LeavesWritten bytes (Some known) after (Err fault) =
    (front rest : List ℕ) × (bytes ≡ front ++ rest)
    × (after ≡ Some (with_fault Write fault (with_bytes front known)))

-- no new file is there, if anything is known
abbrev pub IsAlone : Option Known → Type 0
IsAlone None = Unit {0}
IsAlone (Some known) = known.beside ≡ None

-- a new file is there, and it is empty, if anything is known
abbrev pub IsEmpty : Option Known → Type 0
IsEmpty None = Unit {0}
IsEmpty (Some known) = known.beside ≡ Some empty_new

-- the new file can take the place of the old one: it has its owner and its permissions, and all of
-- it is on the disk
abbrev pub IsReady : Option Known → Type 0
IsReady None = Unit {0}
IsReady (Some known) =
    (bytes : List ℕ)
    × (known.beside
    ≡ Some (record { bytes = bytes; is_owned = true; is_permitted = true; is_synced = true }))

-- the file was replaced before this step failed
abbrev pub is_replaced : Step → Bool
is_replaced SyncFolder = true
is_replaced step = false

-- the result of a step, as the replacement tells it
abbrev pub told : Step → Result (Unit {0}) Error → Result (Unit {0}) Unreplaced
told step (Ok done) = Ok done
told step (Err fault) = Err (record { step = step; fault = fault; left = None })

-- the new file is filled with these bytes and takes its place, or a step fails and it stays
abbrev pub Fills : List ℕ → Option Known → Option Known → Result (Unit {0}) Unreplaced → Type 0
Fills bytes None after result = after ≡ None
Fills bytes (Some before) after (Ok done) = after ≡ Some (put bytes before)
Fills bytes (Some before) after (Err failed) =
    (known : Known) × (after ≡ Some known) × (is_replaced failed.step ≡ false)
    × (known.past ≡ before.past)
    × (known.faults ≡ (failed.step, error_kind failed.fault) ∷ before.faults)

-- a new file is left beside the old one
abbrev pub is_left : Result (Unit {0}) Unreplaced → Bool
is_left (Ok done) = false
is_left (Err failed) = is_some failed.left

-- these steps failed, and the removal of the new file, if that is why it is left
abbrev pub with_left : Option Error → List (Step × ErrorKind) → List (Step × ErrorKind)
with_left None faults = faults
with_left (Some again) faults = (Remove, error_kind again) ∷ faults

-- what is known after a step has failed: the file is the old one, or only its folder is not synced;
-- nothing is beside it, unless the removal failed too; and the faults are those that are told
pub record FailsToReplace (bytes : List ℕ) (before after : Known) (failed : Unreplaced) : Type 0 where
  pub past : after.past ≡ (if is_replaced failed.step then bytes ∷ before.past else before.past)
  pub beside : failed.left ≡ None → after.beside ≡ None
  pub faults :
      after.faults
      ≡ with_left failed.left ((failed.step, error_kind failed.fault) ∷ before.faults)

-- a file is replaced by these bytes, if anything is known of it
abbrev pub Replaces : List ℕ → Option Known → Option Known → Result (Unit {0}) Unreplaced →
    Type 0
Replaces bytes None after result = after ≡ None
Replaces bytes (Some before) after (Ok done) =
    after
    ≡ Some (record before { past = bytes ∷ before.past; beside = None; is_synced = true })
Replaces bytes (Some before) after (Err failed) =
    (known : Known) × (after ≡ Some known) × FailsToReplace bytes before known failed

-- the new file is removed, or is left as that failed, if anything is known
abbrev pub Removes : Option Known → Option Known → Option Error → Type 0
Removes None after left = after ≡ None
Removes (Some before) after None = after ≡ Some (without_new before)
Removes (Some before) after (Some again) = after ≡ Some (with_fault Remove again before)
