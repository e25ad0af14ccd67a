-- What an edit tells of a file: names that mention the key, a fault before it, lines that went, and
-- a dollar.
use Rattle.std.specs.Prelude.{ℕ, ◌≡◌, ◌⊎◌, ◌+◌, ◌||◌, ◌&&◌, ◌==◌, Bool, false, true, MatchBool}
use Rattle.std.specs.Prelude.{nat_lt, List, [], ◌∷◌, ◌++◌, bytes_eq, string_bytes, if◌then◌else◌}
use Rattle.std.specs.List.{flat_map, list_any}
use Rattle.std.specs.Str.{chars}
use Rattle.dotenvy.specs.Dialect.{Dialect}
use Rattle.dotenvy.specs.Characters.{dollar, is_name_character, left_brace}
use Rattle.dotenvy.specs.Entries.{Entry, Declares, Fails, Gives}
use Rattle.dotenvy.specs.Marks.{without_mark}
use Rattle.dotenvy.specs.Value.{Piece, Text, Name, LastBackslash}
use Rattle.dotenvy_editor.specs.declared.warning.Warning.{Warning}
use Rattle.dotenvy_editor.specs.declared.warning.Warning.TheVariants as warning
use Rattle.dotenvy_editor.specs.declared.writing.How.{How}
use Rattle.dotenvy_editor.specs.Assignments.{Assigning}
use Rattle.dotenvy_editor.specs.Forms.{any_after, has}
use Rattle.dotenvy_editor.specs.Slices.{AreSlices, Slice, last_line_after, line_after}

-- the name is one of these
abbrev pub is_among : List (List ℕ) → List ℕ → Bool
is_among names name = list_any (λ other. bytes_eq other name) names

-- the piece mentions one of the names
abbrev pub mentions_one : List (List ℕ) → Piece → Bool
mentions_one names (Text text) = false
mentions_one names (Name name after) = is_among names name
mentions_one names LastBackslash = false

-- one of the pieces mentions one of the names
abbrev pub mention : List (List ℕ) → List Piece → Bool
mention names pieces = list_any (mentions_one names) pieces

-- the names that mention the key, after entries: a declaration that mentions one of them adds its
-- own
abbrev pub changed_after : List (List ℕ) → List Entry → List (List ℕ)
changed_after names [] = names
changed_after names (Declares name pieces ∷ entries) =
    changed_after (if mention names pieces then name ∷ names else names) entries
changed_after names (Fails failure ∷ entries) = changed_after names entries

-- the names that entries on this line declare by a mention of one of these, each with the line
abbrev pub mentioned : List (List ℕ) → ℕ → List Entry → List (List ℕ × ℕ)
mentioned names line [] = []
mentioned names line (Declares name pieces ∷ entries) =
    if mention names pieces then (name, line) ∷ mentioned names line entries
    else mentioned names line entries
mentioned names line (Fails failure ∷ entries) = mentioned names line entries

-- of slices that come after others these names are told, each with its line: those that mention the
-- key, themselves or through names before them; an assignment of the key tells none
abbrev pub TellsMentions : Dialect → List ℕ → List (List ℕ) → List Slice → List Slice →
    List (List ℕ × ℕ) → Type 0
TellsMentions dialect key names before [] told = told ≡ []
TellsMentions dialect key names before (slice ∷ slices) told =
    (Assigning key slice × TellsMentions dialect key names (before ++ slice ∷ []) slices told)
    ⊎ (¬ (Assigning key slice)
    × (entries : List Entry) × (later : List (List ℕ × ℕ)) × Gives dialect slice.logical entries
    × (told ≡ mentioned names (line_after before) entries ++ later)
    × TellsMentions dialect key (changed_after names entries) (before ++ slice ∷ []) slices later)

-- a piece has a NUL in its text
abbrev pub has_nul : Piece → Bool
has_nul (Text text) = has 0 text
has_nul (Name name after) = has 0 after
has_nul LastBackslash = false

-- a load stops at one of these entries, in an environment that has none of the names
abbrev pub stops_load : List Entry → Bool
stops_load [] = false
stops_load (Declares name pieces ∷ entries) = list_any has_nul pieces || stops_load entries
stops_load (Fails failure ∷ entries) = true

-- of slices that come after others this line is told: the first one at which a load stops, if that
-- is before each assignment of the key
abbrev pub TellsStop : Dialect → List ℕ → List Slice → List Slice → List ℕ → Type 0
TellsStop dialect key before [] told = told ≡ []
TellsStop dialect key before (slice ∷ slices) told =
    (Assigning key slice × (told ≡ []))
    ⊎ (¬ (Assigning key slice)
    × (entries : List Entry) × Gives dialect slice.logical entries
    × MatchBool (stops_load entries) (told ≡ line_after before ∷ [])
    (TellsStop dialect key (before ++ slice ∷ []) slices told))

-- the first entry is a fault
abbrev pub fails : List Entry → Bool
fails [] = false
fails (Declares name pieces ∷ entries) = false
fails (Fails failure ∷ entries) = true

-- the lines after the first one, where these lines have a fault
abbrev pub lost_lines : Bool → ℕ → ℕ → List (ℕ × ℕ)
lost_lines is_fault first last =
    if is_fault && nat_lt first last then (first + 1, last) ∷ [] else []

-- of slices that come after others each assignment of the key is told, by its first and last line
abbrev pub TellsLater : List ℕ → List Slice → List Slice → List (ℕ × ℕ) → Type 0
TellsLater key before [] told = told ≡ []
TellsLater key before (slice ∷ slices) told =
    (Assigning key slice
    × (later : List (ℕ × ℕ))
    × (told ≡ (line_after before, last_line_after before slice) ∷ later)
    × TellsLater key (before ++ slice ∷ []) slices later)
    ⊎ (¬ (Assigning key slice) × TellsLater key (before ++ slice ∷ []) slices told)

-- of slices that come after others these lines are told: of the first assignment of the key those
-- after its first one, if its value is a fault; and each later assignment
abbrev pub TellsRemoved : Dialect → List ℕ → List Slice → List Slice → List (ℕ × ℕ) → Type 0
TellsRemoved dialect key before [] told = told ≡ []
TellsRemoved dialect key before (slice ∷ slices) told =
    (Assigning key slice
    × (entries : List Entry) × (later : List (ℕ × ℕ)) × Gives dialect slice.logical entries
    × (told
    ≡ lost_lines (fails entries) (line_after before) (last_line_after before slice) ++ later)
    × TellsLater key (before ++ slice ∷ []) slices later)
    ⊎ (¬ (Assigning key slice) × TellsRemoved dialect key (before ++ slice ∷ []) slices told)

-- the text begins with a character of a name, or with a brace
abbrev pub begins_name : Dialect → List ℕ → Bool
begins_name dialect [] = false
begins_name dialect (c ∷ cs) = c == left_brace || is_name_character dialect c

-- a dollar before a name or a brace, which would be a substitution outside single quotes
abbrev pub has_dollar_name : Dialect → List ℕ → Bool
has_dollar_name dialect text = any_after dollar (begins_name dialect) text

-- the name that a warning tells because it mentions the key, and its line
abbrev pub mention_in : {A : Type 0} → Warning A → List (List ℕ × ℕ)
mention_in (warning.Mentions name line) = (chars (string_bytes name), line) ∷ []
mention_in (warning.StopsBefore line) = []
mention_in (warning.Removed first last) = []
mention_in warning.Dollar = []

-- the line that a warning tells because a load stops there
abbrev pub stop_in : {A : Type 0} → Warning A → List ℕ
stop_in (warning.Mentions name line) = []
stop_in (warning.StopsBefore line) = line ∷ []
stop_in (warning.Removed first last) = []
stop_in warning.Dollar = []

-- the lines that a warning tells because they are removed, by the first and the last one
abbrev pub removed_in : {A : Type 0} → Warning A → List (ℕ × ℕ)
removed_in (warning.Mentions name line) = []
removed_in (warning.StopsBefore line) = []
removed_in (warning.Removed first last) = (first, last) ∷ []
removed_in warning.Dollar = []

-- the dollar that a warning tells
abbrev pub dollar_in : {A : Type 0} → Warning A → List ℕ
dollar_in (warning.Mentions name line) = []
dollar_in (warning.StopsBefore line) = []
dollar_in (warning.Removed first last) = []
dollar_in warning.Dollar = dollar ∷ []

-- a dollar, if the value has one before a name
abbrev pub dollar_of : Dialect → List ℕ → List ℕ
dollar_of dialect value = if has_dollar_name dialect value then dollar ∷ [] else []

-- what is told of an edit that sets a key
pub record TellsSet {A : Type 0} (how : How) (key value bytes : List ℕ)
    (warnings : List (Warning A)) : Type 0 where
  pub slices : List Slice
  pub are : AreSlices (without_mark bytes) slices
  pub mentions :
      TellsMentions how.dialect key (key ∷ []) [] slices (flat_map mention_in warnings)
  pub stop : TellsStop how.dialect key [] slices (flat_map stop_in warnings)
  pub removed : TellsRemoved how.dialect key [] slices (flat_map removed_in warnings)
  pub dollar : flat_map dollar_in warnings ≡ dollar_of how.dialect value

-- what is told of an edit that unsets a key
pub record TellsUnset {A : Type 0} (dialect : Dialect) (key bytes : List ℕ)
    (warnings : List (Warning A)) : Type 0 where
  pub slices : List Slice
  pub are : AreSlices (without_mark bytes) slices
  pub mentions : TellsMentions dialect key (key ∷ []) [] slices (flat_map mention_in warnings)
  pub stop : flat_map stop_in warnings ≡ []
  pub removed : TellsRemoved dialect key [] slices (flat_map removed_in warnings)
  pub dollar : flat_map dollar_in warnings ≡ []

-- what is told of an edit that renames a key
pub record TellsRename {A : Type 0} (dialect : Dialect) (key bytes : List ℕ)
    (warnings : List (Warning A)) : Type 0 where
  pub slices : List Slice
  pub are : AreSlices (without_mark bytes) slices
  pub mentions : TellsMentions dialect key (key ∷ []) [] slices (flat_map mention_in warnings)
  pub stop : TellsStop dialect key [] slices (flat_map stop_in warnings)
  pub removed : flat_map removed_in warnings ≡ []
  pub dollar : flat_map dollar_in warnings ≡ []
