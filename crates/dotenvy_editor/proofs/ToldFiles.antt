-- What is told of a file that was edited.
use Rattle.std.proofs.Common.{◌≡◌, ℕ, Bool, true, false, List, [], ◌++◌, Option, ap, ◌∙◌, append-nil}
use denote.Ref.{Bor}
use Rattle.std.specs.List.{flat_map}
use Rattle.std.specs.Str.{chars}
use Rattle.dotenvy.specs.Dialect.{Dialect}
use Rattle.dotenvy.specs.Marks.{without_mark}
use Rattle.dotenvy_editor.specs.declared.change.Change.TheVariants.{Set, Unset, Rename}
use Rattle.dotenvy_editor.specs.declared.telling.Telling.{Telling}
use Rattle.dotenvy_editor.specs.declared.warning.Warning.{Warning}
use Rattle.dotenvy_editor.specs.declared.writing.Setting.{Setting}
use Rattle.dotenvy_editor.specs.Slices.{Slice}
use Rattle.dotenvy_editor.specs.Warnings.{TellsRename, TellsSet, TellsStop, TellsUnset, dollar_in, dollar_of}
use Rattle.dotenvy_editor.specs.Warnings.{mention_in, removed_in, stop_in}
use Rattle.dotenvy_editor.specs.inside.Telling.{IsUntold, StopsAll, TellsMore, ToldAll, stop_unless}

-- where dollars alone are told nothing else is
pub untold_still : {A : Type 0} {key dollars : List ℕ} {old new : Telling A} → IsUntold key old →
    new ≡ record old { warnings = new.warnings } →
    TellsMore [] [] [] dollars old.warnings.items new.warnings.items → IsUntold key new
untold_still {old = old} {new} untold same told = record {
  mentions = told.mentions_are ∙ append-nil (flat_map mention_in old.warnings.items) ∙ untold.mentions;
  stops = told.stops_are ∙ append-nil (flat_map stop_in old.warnings.items) ∙ untold.stops;
  removed = told.removed_are ∙ append-nil (flat_map removed_in old.warnings.items) ∙ untold.removed;
  changed = rw (ap (λ t. t.changed) same) untold.changed;
  stop = ap (λ t. t.stop) same ∙ untold.stop;
}

-- the line at which a load stops is told at the end where it wasn't before
stop_told : (setting : Setting) (slices : List Slice) (found : Bool) (stop : Option ℕ) (told : List ℕ) →
    StopsAll (Set setting) slices found stop told →
    TellsStop setting.how.dialect (chars setting.key.now) [] slices (told ++ stop_unless found stop)
stop_told setting slices true stop told so = rw (append-nil told) so
stop_told setting slices false stop told (none, so) = rw none so

-- what is told of a file in which a key was set
pub set_tells : {A : Type 0} (setting : Setting) (bytes : List ℕ) (found : Bool) {start now : Telling A}
    {begun warnings : List (Warning A)} → begun ≡ [] →
    TellsMore [] [] [] (dollar_of setting.how.dialect (chars setting.value.now)) begun
    start.warnings.items → ToldAll (Set setting) (without_mark bytes) found start now →
    TellsMore [] (stop_unless found now.stop) [] [] now.warnings.items warnings →
    TellsSet setting.how (chars setting.key.now) (chars setting.value.now) bytes warnings
set_tells setting bytes found {now = now} nothing dollars all more = record {
  slices = all.slices;
  are = all.are;
  mentions = rw (more.mentions_are, append-nil (flat_map mention_in now.warnings.items)) all.mentions;
  stop =
      rw more.stops_are
      (stop_told setting all.slices found now.stop (flat_map stop_in now.warnings.items) all.stops);
  removed = rw (more.removed_are, append-nil (flat_map removed_in now.warnings.items)) all.removed;
  dollar =
      more.dollars_are ∙ append-nil (flat_map dollar_in now.warnings.items) ∙ all.dollars
      ∙ (rw nothing at dollars.dollars_are);
}

-- what is told of a file in which a key was unset
pub unset_tells : {A : Type 0} (key : Bor (List ℕ)) (dialect : Dialect) (bytes : List ℕ) {found : Bool}
    {start now : Telling A} →
    start.warnings.items ≡ [] → ToldAll (Unset key dialect) (without_mark bytes) found start now →
    TellsUnset dialect (chars key.now) bytes now.warnings.items
unset_tells key dialect bytes nothing all = record {
  slices = all.slices;
  are = all.are;
  mentions = all.mentions;
  stop = all.stops;
  removed = all.removed;
  dollar = all.dollars ∙ ap (flat_map dollar_in) nothing;
}

-- what is told of a file in which a key was renamed
pub rename_tells : {A : Type 0} (old new : Bor (List ℕ)) (dialect : Dialect) (bytes : List ℕ) {found : Bool}
    {start now : Telling A} → start.warnings.items ≡ [] → found ≡ true →
    ToldAll (Rename old new dialect) (without_mark bytes) found start now →
    TellsRename dialect (chars old.now) bytes now.warnings.items
rename_tells old new dialect bytes nothing there all = record {
  slices = all.slices;
  are = all.are;
  mentions = all.mentions;
  stop = rw there at all.stops;
  removed = all.removed;
  dollar = all.dollars ∙ ap (flat_map dollar_in) nothing;
}
