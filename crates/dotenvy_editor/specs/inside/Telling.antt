-- What the code tells of the lines of a file, one after another.
use Rattle.std.specs.Prelude.{ℕ, ◌≡◌, Bool, true, false, List, [], ◌∷◌, ◌++◌, Option, Some, None}
use Rattle.std.specs.Prelude.{is_none, not, if◌then◌else◌}
use Rattle.std.specs.List.{flat_map}
use Rattle.std.specs.Option.{option_map_or}
use Rattle.std.specs.Str.{chars}
use Rattle.dotenvy.specs.Dialect.{Dialect}
use Rattle.dotenvy.specs.Entries.{Entry, Gives}
use Rattle.dotenvy.specs.LogicalLine.{Logical}
use Rattle.dotenvy_editor.specs.declared.change.Change.{Change}
use Rattle.dotenvy_editor.specs.declared.change.Change.TheVariants as change
use Rattle.dotenvy_editor.specs.declared.editing.Assignment.{Assignment}
use Rattle.dotenvy_editor.specs.declared.lines.Slice.{Slice as SliceInCode}
use Rattle.dotenvy_editor.specs.declared.telling.Telling.{Telling}
use Rattle.dotenvy_editor.specs.declared.values.Value.{Value}
use Rattle.dotenvy_editor.specs.declared.warning.Warning.{Warning}
use Rattle.dotenvy_editor.specs.Slices.{AreSlices, Slice}
use Rattle.dotenvy_editor.specs.Told.{AreNames}
use Rattle.dotenvy_editor.specs.Warnings.{TellsLater, TellsMentions, TellsRemoved, TellsStop}
use Rattle.dotenvy_editor.specs.Warnings.{changed_after, dollar_in, fails, lost_lines, mention_in}
use Rattle.dotenvy_editor.specs.Warnings.{mentioned, removed_in, stop_in, stops_load}
use Rattle.dotenvy_editor.specs.inside.Changing.{dialect_of, key_of}
use Rattle.dotenvy_editor.specs.inside.Noted.{first_noted}

-- later warnings tell this more, of each kind
pub record TellsMore {A : Type 0} (mentions : List (List ℕ × ℕ)) (stops : List ℕ)
    (removed : List (ℕ × ℕ)) (dollars : List ℕ) (old new : List (Warning A)) : Type 0 where
  pub mentions_are : flat_map mention_in new ≡ flat_map mention_in old ++ mentions
  pub stops_are : flat_map stop_in new ≡ flat_map stop_in old ++ stops
  pub removed_are : flat_map removed_in new ≡ flat_map removed_in old ++ removed
  pub dollars_are : flat_map dollar_in new ≡ flat_map dollar_in old ++ dollars

-- nothing but dollars is told yet of an edit of this key
pub record IsUntold {A : Type 0} (key : List ℕ) (telling : Telling A) : Type 0 where
  pub mentions : flat_map mention_in telling.warnings.items ≡ []
  pub stops : flat_map stop_in telling.warnings.items ≡ []
  pub removed : flat_map removed_in telling.warnings.items ≡ []
  pub changed : AreNames telling.changed (key ∷ [])
  pub stop : telling.stop ≡ None

-- the line at which a load stops, if there is one
abbrev pub stop_list : Option ℕ → List ℕ
stop_list stop = option_map_or (λ line. line ∷ []) stop []

-- the line at which a load stops, if there is one and it wasn't told
abbrev pub stop_unless : Bool → Option ℕ → List ℕ
stop_unless is_told stop = if is_told then [] else stop_list stop

-- a load stops at what is assigned: a fault, or a value with a NUL
abbrev pub is_stop : Option Value → Bool
is_stop None = true
is_stop (Some value) = value.has_nul

-- what is assigned mentions a name
abbrev pub is_mention : Option Value → Bool
is_mention None = false
is_mention (Some value) = value.mentions

-- the name and its line, where it mentions the key
abbrev pub mention_if : Bool → List ℕ → ℕ → List (List ℕ × ℕ)
mention_if mentions name line = if mentions then (name, line) ∷ [] else []

-- the first line at which a load stops, with this one where it stops there
abbrev pub stop_if : Bool → Option ℕ → ℕ → Option ℕ
stop_if stops stop line = if stops then first_noted stop line else stop

-- the names, with this one where it mentions the key
abbrev pub names_if : Bool → List ℕ → List (List ℕ) → List (List ℕ)
names_if mentions name names = if mentions then name ∷ names else names

-- the line that is told at an assignment of the key, the first or a later one, where a load stops
-- before it
abbrev pub stops_at_change : Change → Bool → Option ℕ → List ℕ
stops_at_change (change.Set setting) true stop = stop_list stop
stops_at_change (change.Set setting) false stop = []
stops_at_change (change.Unset key dialect) is_first stop = []
stops_at_change (change.Rename old new dialect) true stop = stop_list stop
stops_at_change (change.Rename old new dialect) false stop = []

-- the lines of an assignment of the key, the first or a later one, that are told since they are
-- removed
abbrev pub removed_at_change : Change → Bool → Bool → ℕ → ℕ → List (ℕ × ℕ)
removed_at_change (change.Set setting) true is_fault first last = lost_lines is_fault first last
removed_at_change (change.Set setting) false is_fault first last = (first, last) ∷ []
removed_at_change (change.Unset key dialect) true is_fault first last =
    lost_lines is_fault first last
removed_at_change (change.Unset key dialect) false is_fault first last = (first, last) ∷ []
removed_at_change (change.Rename old new dialect) is_first is_fault first last = []

-- a logical line that doesn't assign the key is told: what its entries mean for the names, for the
-- first line at which a load stops, and for the warnings
pub record TellsOther {A : Type 0} (dialect : Dialect) (names : List (List ℕ)) (logical : Logical)
    (line : ℕ) (old new : Telling A) : Type 0 where
  pub entries : List Entry
  pub gives : Gives dialect logical entries
  pub changed : AreNames new.changed (changed_after names entries)
  pub stop : new.stop ≡ stop_if (stops_load entries) old.stop line
  pub told :
      TellsMore (mentioned names line entries) [] [] [] old.warnings.items new.warnings.items

-- what is assigned is a fault just where the logical line's entry is
pub record TellsFault (dialect : Dialect) (logical : Logical) (value : Option Value) : Type 0 where
  pub entries : List Entry
  pub gives : Gives dialect logical entries
  pub is_fault : is_none value ≡ fails entries

-- a logical line that the code has is told if it doesn't assign the key; else nothing is told yet, and
-- it is known whether a fault is assigned
abbrev pub TellsRead : {A : Type 0} → Change → Logical → SliceInCode → Option Assignment →
    Telling A → Telling A → Type 0
TellsRead of logical code None old new =
    (names : List (List ℕ)) → AreNames old.changed names →
    TellsOther (dialect_of of) names logical code.first old new
TellsRead of logical code (Some found) old new =
    (new ≡ old) × TellsFault (dialect_of of) logical found.value

-- an assignment of the key in these lines is told, of which one was found before, or none
pub record TellsChange {A : Type 0} (of : Change) (is_found : Bool) (code : SliceInCode)
    (value : Option Value) (old new : Telling A) : Type 0 where
  pub changed : new.changed ≡ old.changed
  pub told :
      TellsMore [] (stops_at_change of (not is_found) old.stop)
      (removed_at_change of (not is_found) (is_none value) code.first code.last) []
      old.warnings.items new.warnings.items

-- of slices the line at which a load stops is told once an assignment of the key was found
abbrev pub StopsFound : Dialect → List ℕ → List Slice → Bool → Option ℕ → List ℕ → Type 0
StopsFound dialect key slices false None told =
    (told ≡ [])
    × ((later : List Slice) (more : List ℕ) → TellsStop dialect key slices later more →
    TellsStop dialect key [] (slices ++ later) more)
StopsFound dialect key slices false (Some line) told =
    (told ≡ []) × ((later : List Slice) → TellsStop dialect key [] (slices ++ later) (line ∷ []))
StopsFound dialect key slices true stop told =
    (later : List Slice) → TellsStop dialect key [] (slices ++ later) told

-- of slices the line at which a load stops is told, but no unset tells it
abbrev pub StopsSoFar : Change → List Slice → Bool → Option ℕ → List ℕ → Type 0
StopsSoFar (change.Set setting) slices found stop told =
    StopsFound setting.how.dialect (chars setting.key.now) slices found stop told
StopsSoFar (change.Unset key dialect) slices found stop told = told ≡ []
StopsSoFar (change.Rename old new dialect) slices found stop told =
    StopsFound dialect (chars old.now) slices found stop told

-- of slices the lines that are removed are told
abbrev pub RemovedFound : Dialect → List ℕ → List Slice → Bool → List (ℕ × ℕ) → Type 0
RemovedFound dialect key slices false told =
    (told ≡ [])
    × ((later : List Slice) (more : List (ℕ × ℕ)) → TellsRemoved dialect key slices later more →
    TellsRemoved dialect key [] (slices ++ later) more)
RemovedFound dialect key slices true told =
    (later : List Slice) (more : List (ℕ × ℕ)) → TellsLater key slices later more →
    TellsRemoved dialect key [] (slices ++ later) (told ++ more)

-- of slices the lines that are removed are told, but a rename removes none
abbrev pub RemovedSoFar : Change → List Slice → Bool → List (ℕ × ℕ) → Type 0
RemovedSoFar (change.Set setting) slices found told =
    RemovedFound setting.how.dialect (chars setting.key.now) slices found told
RemovedSoFar (change.Unset key dialect) slices found told =
    RemovedFound dialect (chars key.now) slices found told
RemovedSoFar (change.Rename old new dialect) slices found told = told ≡ []

-- some slices of a file are told; an assignment of the key was found among them, or not
pub record ToldSoFar {A : Type 0} (of : Change) (slices : List Slice) (found : Bool)
    (start now : Telling A) : Type 0 where
  pub names : List (List ℕ)
  pub changed : AreNames now.changed names
  pub mentions :
      (later : List Slice) (more : List (List ℕ × ℕ)) →
      TellsMentions (dialect_of of) (key_of of) names slices later more →
      TellsMentions (dialect_of of) (key_of of) (key_of of ∷ []) [] (slices ++ later)
      (flat_map mention_in now.warnings.items ++ more)
  pub stops : StopsSoFar of slices found now.stop (flat_map stop_in now.warnings.items)
  pub removed : RemovedSoFar of slices found (flat_map removed_in now.warnings.items)
  pub dollars : flat_map dollar_in now.warnings.items ≡ flat_map dollar_in start.warnings.items

-- of all slices the line at which a load stops was told, or is still to be told
abbrev pub StopsAll : Change → List Slice → Bool → Option ℕ → List ℕ → Type 0
StopsAll (change.Unset key dialect) slices found stop told = told ≡ []
StopsAll of slices true stop told = TellsStop (dialect_of of) (key_of of) [] slices told
StopsAll of slices false stop told =
    (told ≡ []) × TellsStop (dialect_of of) (key_of of) [] slices (stop_list stop)

-- of all slices the lines that are removed were told, but a rename removes none
abbrev pub RemovedAll : Change → List Slice → List (ℕ × ℕ) → Type 0
RemovedAll (change.Rename old new dialect) slices told = told ≡ []
RemovedAll of slices told = TellsRemoved (dialect_of of) (key_of of) [] slices told

-- all slices of a body are told; an assignment of the key was found among them, or not
pub record ToldAll {A : Type 0} (of : Change) (body : List ℕ) (found : Bool) (start now : Telling A)
    : Type 0 where
  pub slices : List Slice
  pub are : AreSlices body slices
  pub mentions :
      TellsMentions (dialect_of of) (key_of of) (key_of of ∷ []) [] slices
      (flat_map mention_in now.warnings.items)
  pub stops : StopsAll of slices found now.stop (flat_map stop_in now.warnings.items)
  pub removed : RemovedAll of slices (flat_map removed_in now.warnings.items)
  pub dollars : flat_map dollar_in now.warnings.items ≡ flat_map dollar_in start.warnings.items
