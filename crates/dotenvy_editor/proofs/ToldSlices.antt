-- What is told of slices that are read one after another.
use Rattle.std.proofs.Common.{◌≡◌, ℕ, inl, inr, Bool, true, false, not, List, [], ◌∷◌, ◌++◌, Option, Some, None}
use Rattle.std.proofs.Common.{refl, ap, ◌∙◌, append_assoc, append-nil}
use Rattle.std.specs.Prelude.{is_none}
use Rattle.std.specs.List.{flat_map}
use Rattle.std.specs.Str.{chars}
use Rattle.std.proofs.lemmas.Bool.{cases_Bool}
use Rattle.dotenvy.specs.Dialect.{Dialect}
use Rattle.dotenvy.specs.Entries.{Entry, Gives}
use Rattle.dotenvy_editor.specs.declared.change.Change.{Change}
use Rattle.dotenvy_editor.specs.declared.change.Change.TheVariants.{Set, Unset, Rename}
use Rattle.dotenvy_editor.specs.declared.lines.Slice.{Slice as SliceInCode}
use Rattle.dotenvy_editor.specs.declared.telling.Telling.{Telling}
use Rattle.dotenvy_editor.specs.declared.values.Value.{Value}
use Rattle.dotenvy_editor.specs.Assignments.{Assigning}
use Rattle.dotenvy_editor.specs.Slices.{AreSlices, Slice, last_line_after, line_after}
use Rattle.dotenvy_editor.specs.Warnings.{TellsRemoved, TellsStop, changed_after}
use Rattle.dotenvy_editor.specs.Warnings.{dollar_in, fails, lost_lines, mention_in, mentioned, removed_in}
use Rattle.dotenvy_editor.specs.Warnings.{stop_in, stops_load}
use Rattle.dotenvy_editor.specs.inside.Changing.{dialect_of, key_of}
use Rattle.dotenvy_editor.specs.inside.Telling.{IsUntold, RemovedAll, RemovedFound, RemovedSoFar, StopsAll}
use Rattle.dotenvy_editor.specs.inside.Telling.{StopsFound, StopsSoFar, TellsChange, TellsFault, TellsOther}
use Rattle.dotenvy_editor.specs.inside.Telling.{ToldAll, ToldSoFar, removed_at_change, stop_if, stop_list}
use Rattle.dotenvy_editor.specs.inside.Telling.{stops_at_change}

-- one more slice, before later ones
more_before : (slices : List Slice) (slice : Slice) (later : List Slice) →
    (slices ++ slice ∷ []) ++ later ≡ slices ++ slice ∷ later
more_before slices slice later = append_assoc slices (slice ∷ []) later

-- No line is told yet.
stops_begun : (of : Change) → StopsSoFar of [] false None []
stops_begun (Set setting) = (refl, λ later more told. told)
stops_begun (Unset key dialect) = refl
stops_begun (Rename old new dialect) = (refl, λ later more told. told)

removed_begun : (of : Change) → RemovedSoFar of [] false []
removed_begun (Set setting) = (refl, λ later more told. told)
removed_begun (Unset key dialect) = (refl, λ later more told. told)
removed_begun (Rename old new dialect) = refl

pub told_begun : {A : Type 0} (of : Change) (found : Bool) (start : Telling A) → found ≡ false →
    IsUntold (key_of of) start → ToldSoFar of [] found start start
told_begun of found start none untold = record {
  names = key_of of ∷ [];
  changed = untold.changed;
  mentions = λ later more told. rw untold.mentions told;
  stops = rw (none, untold.stop, untold.stops) (stops_begun of);
  removed = rw (none, untold.removed) (removed_begun of);
  dollars = refl;
}

-- A line that doesn't assign the key.
module _ (dialect : Dialect) (key : List ℕ) (slices : List Slice) (slice : Slice)
    (other : ¬ (Assigning key slice)) (entries : List Entry) (gives : Gives dialect slice.logical entries) where
  -- a load stops there, or it doesn't
  stops_other : (found : Bool) (stop : Option ℕ) (told : List ℕ) → StopsFound dialect key slices found stop told →
      StopsFound dialect key (slices ++ slice ∷ []) found (stop_if (stops_load entries) stop (line_after slices)) told
  stops_other false None told (none, so) = elim (cases_Bool (stops_load entries)) [
    | inl stops ↦ rw stops (
      none,
      λ later.
          rw (more_before slices slice later)
          (so (slice ∷ later) (line_after slices ∷ []) (inr (other, entries, gives, rw stops refl))),
    )
    | inr goes ↦ rw goes (
      none,
      λ later more told.
          rw (more_before slices slice later)
          (so (slice ∷ later) more (inr (other, entries, gives, rw goes told))),
    )
  ]
  stops_other false (Some line) told (none, so) = elim (cases_Bool (stops_load entries)) [
    | inl stops ↦ rw stops (none, λ later. rw (more_before slices slice later) (so (slice ∷ later)))
    | inr goes ↦ rw goes (none, λ later. rw (more_before slices slice later) (so (slice ∷ later)))
  ]
  stops_other true stop told so = λ later. rw (more_before slices slice later) (so (slice ∷ later))

  removed_other : (found : Bool) (told : List (ℕ × ℕ)) → RemovedFound dialect key slices found told →
      RemovedFound dialect key (slices ++ slice ∷ []) found told
  removed_other false told (none, so) = (
    none,
    λ later more told. rw (more_before slices slice later) (so (slice ∷ later) more (inr (other, told))),
  )
  removed_other true told so = λ later more told.
      rw (more_before slices slice later) (so (slice ∷ later) more (inr (other, told)))

stops_kept : (of : Change) (slices : List Slice) (slice : Slice) (entries : List Entry) (found : Bool)
    (stop : Option ℕ) (told : List ℕ) → ¬ (Assigning (key_of of) slice) →
    Gives (dialect_of of) slice.logical entries → StopsSoFar of slices found stop told →
    StopsSoFar of (slices ++ slice ∷ []) found (stop_if (stops_load entries) stop (line_after slices)) told
stops_kept (Set setting) slices slice entries found stop told other gives so =
    stops_other setting.how.dialect (chars setting.key.now) slices slice other entries gives found stop told so
stops_kept (Unset key dialect) slices slice entries found stop told other gives so = so
stops_kept (Rename old new dialect) slices slice entries found stop told other gives so =
    stops_other dialect (chars old.now) slices slice other entries gives found stop told so

removed_kept : (of : Change) (slices : List Slice) (slice : Slice) (entries : List Entry) (found : Bool)
    (told : List (ℕ × ℕ)) → ¬ (Assigning (key_of of) slice) →
    Gives (dialect_of of) slice.logical entries → RemovedSoFar of slices found told →
    RemovedSoFar of (slices ++ slice ∷ []) found told
removed_kept (Set setting) slices slice entries found told other gives so =
    removed_other setting.how.dialect (chars setting.key.now) slices slice other entries gives found told so
removed_kept (Unset key dialect) slices slice entries found told other gives so =
    removed_other dialect (chars key.now) slices slice other entries gives found told so
removed_kept (Rename old new dialect) slices slice entries found told other gives so = so

-- one more line that doesn't assign the key is told
pub told_other : {A : Type 0} {of : Change} {slices : List Slice} {found : Bool} {start old new : Telling A}
    (slice : Slice) (line : ℕ) (so : ToldSoFar of slices found start old) → line ≡ line_after slices →
    ¬ (Assigning (key_of of) slice) → TellsOther (dialect_of of) so.names slice.logical line old new →
    ToldSoFar of (slices ++ slice ∷ []) found start new
told_other {of = of} {slices} {found} {start} {old} {new} slice line so place other is = record {
  names = changed_after so.names is.entries;
  changed = is.changed;
  mentions = λ later more told.
      rw (
        more_before slices slice later,
        is.told.mentions_are,
        append_assoc (flat_map mention_in old.warnings.items) (mentioned so.names line is.entries) more,
      ) (so.mentions (slice ∷ later) (mentioned so.names line is.entries ++ more) (inr (
        other,
        is.entries,
        more,
        is.gives,
        ap (λ at. mentioned so.names at is.entries ++ more) place,
        told,
      )));
  stops =
      rw (is.stop, is.told.stops_are, append-nil (flat_map stop_in old.warnings.items), place)
      (stops_kept of slices slice is.entries found old.stop (flat_map stop_in old.warnings.items) other is.gives
      so.stops);
  removed =
      rw (is.told.removed_are, append-nil (flat_map removed_in old.warnings.items))
      (removed_kept of slices slice is.entries found (flat_map removed_in old.warnings.items) other is.gives
      so.removed);
  dollars = is.told.dollars_are ∙ append-nil (flat_map dollar_in old.warnings.items) ∙ so.dollars;
}

-- An assignment of the key.
module _ (dialect : Dialect) (key : List ℕ) (slices : List Slice) (slice : Slice) (assigns : Assigning key slice) where
  -- where it is the first one, the line at which a load stops is told
  stops_first : (stop : Option ℕ) (told : List ℕ) → StopsFound dialect key slices false stop told →
      StopsFound dialect key (slices ++ slice ∷ []) true stop (told ++ stop_list stop)
  stops_first None told (none, so) = λ later.
      rw (more_before slices slice later, none) (so (slice ∷ later) [] (inl (assigns, refl)))
  stops_first (Some line) told (none, so) = λ later. rw (more_before slices slice later, none) (so (slice ∷ later))

  stops_later : (stop : Option ℕ) (told : List ℕ) → StopsFound dialect key slices true stop told →
      StopsFound dialect key (slices ++ slice ∷ []) true stop (told ++ [])
  stops_later stop told so = λ later.
      rw (more_before slices slice later, append-nil told) (so (slice ∷ later))

  -- where it is the first one, lines of a fault are told; else all its lines
  removed_first : (value : Option Value) (first last : ℕ) (told : List (ℕ × ℕ)) → first ≡ line_after slices →
      last ≡ last_line_after slices slice → TellsFault dialect slice.logical value →
      RemovedFound dialect key slices false told →
      RemovedFound dialect key (slices ++ slice ∷ []) true (told ++ lost_lines (is_none value) first last)
  removed_first value first last told begins ends is (none, so) = λ later more tells.
      rw (more_before slices slice later, none, is.is_fault, begins, ends)
      (so (slice ∷ later)
      (lost_lines (fails is.entries) (line_after slices) (last_line_after slices slice) ++ more)
      (inl (assigns, is.entries, more, is.gives, refl, tells)))

  removed_later : (first last : ℕ) (told : List (ℕ × ℕ)) → first ≡ line_after slices →
      last ≡ last_line_after slices slice → RemovedFound dialect key slices true told →
      RemovedFound dialect key (slices ++ slice ∷ []) true (told ++ (first, last) ∷ [])
  removed_later first last told begins ends so = λ later more tells.
      rw (more_before slices slice later, append_assoc told ((first, last) ∷ []) more, begins, ends)
      (so (slice ∷ later) ((line_after slices, last_line_after slices slice) ∷ more)
      (inl (assigns, more, refl, tells)))

stops_changed : (of : Change) (slices : List Slice) (slice : Slice) (found : Bool) (stop other : Option ℕ)
    (told : List ℕ) → Assigning (key_of of) slice → StopsSoFar of slices found stop told →
    StopsSoFar of (slices ++ slice ∷ []) true other (told ++ stops_at_change of (not found) stop)
stops_changed (Set setting) slices slice false stop other told assigns so =
    stops_first setting.how.dialect (chars setting.key.now) slices slice assigns stop told so
stops_changed (Set setting) slices slice true stop other told assigns so =
    stops_later setting.how.dialect (chars setting.key.now) slices slice assigns stop told so
stops_changed (Unset key dialect) slices slice found stop other told assigns so = append-nil told ∙ so
stops_changed (Rename old new dialect) slices slice false stop other told assigns so =
    stops_first dialect (chars old.now) slices slice assigns stop told so
stops_changed (Rename old new dialect) slices slice true stop other told assigns so =
    stops_later dialect (chars old.now) slices slice assigns stop told so

removed_changed : (of : Change) (slices : List Slice) (slice : Slice) (found : Bool) (value : Option Value)
    (first last : ℕ) (told : List (ℕ × ℕ)) → Assigning (key_of of) slice → first ≡ line_after slices →
    last ≡ last_line_after slices slice → TellsFault (dialect_of of) slice.logical value →
    RemovedSoFar of slices found told →
    RemovedSoFar of (slices ++ slice ∷ []) true
    (told ++ removed_at_change of (not found) (is_none value) first last)
removed_changed (Set setting) slices slice false value first last told assigns begins ends is so =
    removed_first setting.how.dialect (chars setting.key.now) slices slice assigns value first last told begins ends is
    so
removed_changed (Set setting) slices slice true value first last told assigns begins ends is so =
    removed_later setting.how.dialect (chars setting.key.now) slices slice assigns first last told begins ends so
removed_changed (Unset key dialect) slices slice false value first last told assigns begins ends is so =
    removed_first dialect (chars key.now) slices slice assigns value first last told begins ends is so
removed_changed (Unset key dialect) slices slice true value first last told assigns begins ends is so =
    removed_later dialect (chars key.now) slices slice assigns first last told begins ends so
removed_changed (Rename old new dialect) slices slice found value first last told assigns begins ends is so =
    append-nil told ∙ so

-- one more assignment of the key is told
pub told_changed : {A : Type 0} {of : Change} {slices : List Slice} {found : Bool} {start old new : Telling A}
    (slice : Slice) (code : SliceInCode) (value : Option Value) → ToldSoFar of slices found start old →
    code.first ≡ line_after slices → code.last ≡ last_line_after slices slice → Assigning (key_of of) slice →
    TellsFault (dialect_of of) slice.logical value → TellsChange of found code value old new →
    ToldSoFar of (slices ++ slice ∷ []) true start new
told_changed {of = of} {slices} {found} {start} {old} {new} slice code value so begins ends assigns fault is = record {
  names = so.names;
  changed = rw is.changed so.changed;
  mentions = λ later more told.
      rw (more_before slices slice later, is.told.mentions_are, append-nil (flat_map mention_in old.warnings.items))
      (so.mentions (slice ∷ later) more (inl (assigns, told)));
  stops =
      rw is.told.stops_are
      (stops_changed of slices slice found old.stop new.stop (flat_map stop_in old.warnings.items) assigns so.stops);
  removed =
      rw is.told.removed_are
      (removed_changed of slices slice found value code.first code.last (flat_map removed_in old.warnings.items)
      assigns begins ends fault so.removed);
  dollars = is.told.dollars_are ∙ append-nil (flat_map dollar_in old.warnings.items) ∙ so.dollars;
}

-- All lines.
module _ (dialect : Dialect) (key : List ℕ) (slices : List Slice) where
  stops_whole : (stop : Option ℕ) (told : List ℕ) → StopsFound dialect key slices false stop told →
      (told ≡ []) × TellsStop dialect key [] slices (stop_list stop)
  stops_whole None told (none, so) = (none, rw (append-nil slices) at (so [] [] refl))
  stops_whole (Some line) told (none, so) = (none, rw (append-nil slices) at (so []))

  removed_whole : (found : Bool) (told : List (ℕ × ℕ)) → RemovedFound dialect key slices found told →
      TellsRemoved dialect key [] slices told
  removed_whole false told (none, so) = rw none (rw (append-nil slices) at (so [] [] refl))
  removed_whole true told so = rw (append-nil slices, append-nil told) at (so [] [] refl)

stops_all : (of : Change) (slices : List Slice) (found : Bool) (stop : Option ℕ) (told : List ℕ) →
    StopsSoFar of slices found stop told → StopsAll of slices found stop told
stops_all (Set setting) slices false stop told so =
    stops_whole setting.how.dialect (chars setting.key.now) slices stop told so
stops_all (Set setting) slices true stop told so = rw (append-nil slices) at (so [])
stops_all (Unset key dialect) slices found stop told so = so
stops_all (Rename old new dialect) slices false stop told so = stops_whole dialect (chars old.now) slices stop told so
stops_all (Rename old new dialect) slices true stop told so = rw (append-nil slices) at (so [])

removed_all : (of : Change) (slices : List Slice) (found : Bool) (told : List (ℕ × ℕ)) →
    RemovedSoFar of slices found told → RemovedAll of slices told
removed_all (Set setting) slices found told so =
    removed_whole setting.how.dialect (chars setting.key.now) slices found told so
removed_all (Unset key dialect) slices found told so = removed_whole dialect (chars key.now) slices found told so
removed_all (Rename old new dialect) slices found told so = so

-- all slices of a body were told
pub told_all : {A : Type 0} {of : Change} {slices : List Slice} {found : Bool} {start now : Telling A}
    (body : List ℕ) → AreSlices body slices → ToldSoFar of slices found start now → ToldAll of body found start now
told_all {of = of} {slices} {found} {start} {now} body are so = record {
  slices = slices;
  are = are;
  mentions =
      rw (append-nil slices, append-nil (flat_map mention_in now.warnings.items)) at (so.mentions [] [] refl);
  stops = stops_all of slices found now.stop (flat_map stop_in now.warnings.items) so.stops;
  removed = removed_all of slices found (flat_map removed_in now.warnings.items) so.removed;
  dollars = so.dollars;
}
