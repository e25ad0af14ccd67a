-- The search for a file in a directory and in those above it. Paths are texts, as bytes.
use Rattle.std.specs.Prelude.{◌≡◌, ◌⊎◌, ℕ, ◌+◌, IsTrue, Bool, true, false, not, ◌||◌, ◌==◌, List}
use Rattle.std.specs.Prelude.{[], ◌∷◌, ◌++◌, map, length, Option, Some, None, if◌then◌else◌}
use Rattle.std.specs.List.{list_any, before_last}
use Rattle.std.specs.IoError.{error_kind}
use Rattle.std.specs.declared.io.Error.{Error as IoError}
use Rattle.std.specs.declared.io.ErrorKind.{ErrorKind}
use Rattle.std.specs.declared.io.ErrorKind.TheVariants.{NotFound}
use Rattle.dotenvy_base.specs.declared.search.Look.{Look}
use Rattle.dotenvy_base.specs.declared.search.Look.TheVariants.{File, Other, Fault}

-- the byte between two names in a path
abbrev pub slash : ℕ
slash = 47

-- the byte is a slash
abbrev pub is_slash : ℕ → Bool
is_slash c = c == slash

-- the path begins with a slash
abbrev pub begins_with_slash : List ℕ → Bool
begins_with_slash [] = false
begins_with_slash (c ∷ cs) = is_slash c

-- the path ends with a slash
abbrev pub ends_with_slash : List ℕ → Bool
ends_with_slash [] = false
ends_with_slash (c ∷ []) = is_slash c
ends_with_slash (c ∷ d ∷ cs) = ends_with_slash (d ∷ cs)

-- the path of a name in a directory: the name itself, if it begins with a slash or the directory is empty
abbrev pub path_in : List ℕ → List ℕ → List ℕ
path_in directory name =
    if begins_with_slash name || length directory == 0 then name
    else (if ends_with_slash directory then directory ++ name else directory ++ slash ∷ name)

-- what is before the last slash, or the root where that is empty; without a slash, the empty text
abbrev pub parent_part : List ℕ → List ℕ
parent_part directory =
    if list_any is_slash directory
    then (if length (before_last is_slash directory) == 0 then slash ∷ [] else
    before_last is_slash directory)
    else []

-- the directory above; there is none above the root and above the empty text
abbrev pub parent_of : List ℕ → Option (List ℕ)
parent_of [] = None
parent_of (c ∷ []) = if is_slash c then None else Some []
parent_of (c ∷ d ∷ cs) = Some (parent_part (c ∷ d ∷ cs))

-- the list is the directory, its parent, the parent of that, and so on to the last
abbrev pub Ascends : List ℕ → List (List ℕ) → Type 0
Ascends directory [] = ⊥
Ascends directory (first ∷ []) = (first ≡ directory) × (parent_of directory ≡ None)
Ascends directory (first ∷ second ∷ others) =
    (first ≡ directory) × (parent_of directory ≡ Some second) × Ascends second (second ∷ others)

-- an error of this kind says that nothing is there
abbrev pub is_not_found : ErrorKind → Bool
is_not_found NotFound = true
is_not_found _ = false

-- what ends a search: a file, or an error of any kind except `NotFound`
abbrev pub ends_search : Look → Bool
ends_search File = true
ends_search Other = false
ends_search (Fault fault) = not (is_not_found (error_kind fault))

-- which of these paths are asked for, with what is at each: in order, up to the first that ends the search
abbrev pub AreAsked : List (List ℕ) → List (List ℕ × Look) → Type 0
AreAsked [] asked = asked ≡ []
AreAsked (path ∷ paths) [] = ⊥
AreAsked (path ∷ paths) ((first, look) ∷ asked) =
    (first ≡ path)
    × ((IsTrue (ends_search look) × (asked ≡ []))
    ⊎ (IsTrue (not (ends_search look)) × AreAsked paths asked))

-- the answer of a search: the path of a file, the fault that ended it, or that there is no such file
pub data SearchEnd : Type 0 where
  FoundAt : List ℕ → SearchEnd
  EndedBy : IoError → SearchEnd
  FoundNowhere : SearchEnd

-- the answer that follows from the paths asked for and what is at each
abbrev pub search_answer : List (List ℕ × Look) → SearchEnd
search_answer [] = FoundNowhere
search_answer ((path, File) ∷ candidates) = FoundAt path
search_answer ((path, Other) ∷ candidates) = search_answer candidates
search_answer ((path, Fault fault) ∷ candidates) =
    if is_not_found (error_kind fault) then search_answer candidates else EndedBy fault

-- a search for the name, from the directory up, asks for these paths, finds this at each, and has this answer
pub record Searches (directory name : List ℕ) (asked : List (List ℕ × Look)) (answer : SearchEnd) :
    Type 0 where
  pub directories : List (List ℕ)
  pub ascends : Ascends directory directories
  pub are_asked : AreAsked (map (λ d. path_in d name) directories) asked
  pub answers : answer ≡ search_answer asked

-- `looks 0` is what is at the first path, `looks 1` at the next, and so on
abbrev pub Sees : (ℕ → Look) → List (List ℕ × Look) → Type 0
Sees looks [] = Unit {0}
Sees looks ((path, look) ∷ asked) = (look ≡ looks 0) × Sees (λ n. looks (1 + n)) asked
