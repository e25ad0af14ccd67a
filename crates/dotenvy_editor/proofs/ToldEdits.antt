-- What is told while the lines of a body are changed.
use Rattle.std.proofs.Common.{◌≡◌, ℕ, true, false, List, [], ◌∷◌, ◌++◌, Option, Some, None, refl, sym, ap, ◌∙◌}
use Rattle.std.proofs.Common.{append-nil, subst}
use Rattle.std.specs.Str.{chars}
use Rattle.dotenvy_editor.specs.declared.change.Change.{Change}
use Rattle.dotenvy_editor.specs.declared.editing.Editing.{Editing}
use Rattle.dotenvy_editor.specs.declared.editing.Assignment.{Assignment}
use Rattle.dotenvy_editor.specs.declared.lines.Slice.{Slice as SliceInCode}
use Rattle.dotenvy_editor.specs.declared.telling.Telling.{Telling}
use Rattle.dotenvy_editor.specs.Assignments.{Assigning}
use Rattle.dotenvy_editor.specs.Slices.{AreSlices, ComeBefore, Slice, last_line_after, line_after, line_count}
use Rattle.dotenvy_editor.specs.Slices.{slices_bytes}
use Rattle.dotenvy_editor.specs.TakenSlices.{LinesState, TakesSlice}
use Rattle.dotenvy_editor.specs.inside.Changing.{key_of}
use Rattle.dotenvy_editor.specs.inside.Noted.{IsSlice}
use Rattle.dotenvy_editor.specs.inside.Telling.{IsUntold, TellsChange, TellsRead, ToldAll, ToldSoFar}
use Rattle.dotenvy_editor.proofs.ChangedLines.{LineIsRead}
use Rattle.dotenvy_editor.proofs.NotedLines.{are_all, bytes_more, come_more, later_more}
use Rattle.dotenvy_editor.proofs.ToldSlices.{told_all, told_begun, told_changed, told_other}

-- some lines of a body were taken, and are told
pub record TellsSoFar {A : Type 0} (body : List ℕ) (lines : LinesState) (old new : Editing A) : Type 0 where
  pub slices : List Slice
  pub before : lines.before ≡ slices_bytes slices
  pub joins : body ≡ slices_bytes slices ++ lines.left
  pub come : ComeBefore slices lines.left
  pub same : new.change ≡ old.change
  pub told : ToldSoFar old.change slices new.is_found old.telling new.telling

-- no line was taken yet
pub tells_begun : {A : Type 0} (body : List ℕ) (lines : LinesState) (old : Editing A) → lines.before ≡ [] →
    lines.left ≡ body → old.is_found ≡ false → IsUntold (key_of old.change) old.telling →
    TellsSoFar body lines old old
tells_begun body lines old fresh whole none untold = record {
  slices = [];
  before = fresh;
  joins = sym whole;
  come = tt;
  same = refl;
  told = told_begun old.change old.is_found old.telling none untold;
}

-- the slice that was taken
abbrev taken_slice : {old new : LinesState} {code : SliceInCode} → TakesSlice old code new → Slice
taken_slice {code = code} takes = record { bytes = code.bytes.now; logical = takes.logical }

-- a line that was taken is told, whose text is told by the lines
pub told_read : {lines next : LinesState} {code : SliceInCode} {A : Type 0} (of : Change) (found : Option Assignment)
    (old new : Telling A) (text : List ℕ) (takes : TakesSlice lines code next) → text ≡ next.text →
    ((line : Slice) → IsSlice code (chars text) line → TellsRead of line.logical code found old new) →
    TellsRead of takes.logical code found old new
told_read of found old new text takes e told = told (taken_slice takes) (refl, rw e takes.is_kind)

-- one more line was taken, and is told
tells_more : {A : Type 0} {body : List ℕ} {lines next : LinesState} {old now : Editing A} {code : SliceInCode}
    (new : Editing A) (k : TellsSoFar body lines old now) (takes : TakesSlice lines code next) →
    new.change ≡ old.change →
    ToldSoFar old.change (k.slices ++ taken_slice takes ∷ []) new.is_found old.telling new.telling →
    TellsSoFar body next old new
tells_more {next = next} new k takes same told =
    let slice = taken_slice takes in record {
      slices = k.slices ++ slice ∷ [];
      before = takes.taken ∙ ap (λ bytes. bytes ++ slice.bytes) k.before ∙ sym (bytes_more k.slices slice);
      joins = k.joins ∙ ap (◌++◌ (slices_bytes k.slices)) takes.cut ∙ sym (later_more k.slices slice next.left);
      come = come_more k.slices slice next.left (rw takes.cut at k.come) takes.is_next;
      same = same;
      told = told;
    }

-- the lines of the slice that was taken
first_here : {A : Type 0} {body : List ℕ} {lines next : LinesState} {old now : Editing A} {code : SliceInCode}
    (k : TellsSoFar body lines old now) → TakesSlice lines code next → code.first ≡ line_after k.slices
first_here k takes = rw k.before at takes.first_is

last_here : {A : Type 0} {body : List ℕ} {lines next : LinesState} {old now : Editing A} {code : SliceInCode}
    (k : TellsSoFar body lines old now) (takes : TakesSlice lines code next) →
    code.last ≡ last_line_after k.slices (taken_slice takes)
last_here {code = code} k takes =
    takes.last_is ∙ ap line_count (takes.taken ∙ ap (λ bytes. bytes ++ code.bytes.now) k.before)

-- one more line is kept
pub tells_kept : {A : Type 0} {body : List ℕ} {lines next : LinesState} {old now read new : Editing A}
    {code : SliceInCode} (k : TellsSoFar body lines old now) (takes : TakesSlice lines code next) →
    LineIsRead (chars next.text) code None now read →
    TellsRead now.change takes.logical code None now.telling read.telling →
    new ≡ record read { out = new.out } → TellsSoFar body next old new
tells_kept {old = old} {now} {read} {new} {code} k takes is tells stays =
    let slice = taken_slice takes in
    let not : ¬ (Assigning (key_of old.change) slice) = rw k.same at (is.finds slice (refl, takes.is_kind)) in
    tells_more new k takes (ap (λ e. e.change) stays ∙ ap (λ e. e.change) is.same ∙ k.same)
    (rw (ap (λ e. e.is_found) stays, ap (λ e. e.telling) stays, ap (λ e. e.is_found) is.same)
    (told_other slice code.first k.told (first_here k takes) not
    (rw k.same at (tells k.told.names k.told.changed))))

-- one more assignment is changed
pub tells_changed : {A : Type 0} {body : List ℕ} {lines next : LinesState} {old now read new : Editing A}
    {code : SliceInCode} (found : Assignment) (k : TellsSoFar body lines old now)
    (takes : TakesSlice lines code next) → LineIsRead (chars next.text) code (Some found) now read →
    TellsRead now.change takes.logical code (Some found) now.telling read.telling → new.is_found ≡ true →
    new.change ≡ read.change →
    TellsChange read.change read.is_found found.slice found.value read.telling new.telling →
    TellsSoFar body next old new
tells_changed {old = old} {now} {read} {new} {code} found k takes is (stays, fault) finds same change =
    let slice = taken_slice takes in
    let (assigns, is_code, is_slice) = rw k.same at (is.finds slice (refl, takes.is_kind)) in
    let here : TellsChange old.change now.is_found code found.value now.telling new.telling =
    rw (← k.same, ← ap (λ e. e.change) is.same, ← ap (λ e. e.is_found) is.same, ← is_code, ← stays) change in
    tells_more new k takes (same ∙ ap (λ e. e.change) is.same ∙ k.same)
    (rw finds
    (told_changed slice code found.value k.told (first_here k takes) (last_here k takes)
    (rw (ap (λ s. s.logical) is_slice) assigns.states) (rw k.same at fault) here))

-- all lines were told
pub tells_all : {A : Type 0} {body : List ℕ} {lines : LinesState} {old new : Editing A}
    (k : TellsSoFar body lines old new) → lines.left ≡ [] →
    ToldAll old.change body new.is_found old.telling new.telling
tells_all {body = body} k none =
    let P : List ℕ → Type 0 = λ bytes. AreSlices bytes k.slices in
    let all : slices_bytes k.slices ≡ body = sym (k.joins ∙ rw none (append-nil (slices_bytes k.slices))) in
    told_all body (subst P all (are_all k.slices (rw none at k.come))) k.told
