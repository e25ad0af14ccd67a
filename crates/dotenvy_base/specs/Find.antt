-- What a call of `find` asks its argument `look`, and what it returns.
use Rattle.std.specs.Prelude.{◌≡◌, ◌⊎◌, ℕ, List, [], ◌++◌, map, Result, Err, IsOkAnd, IsErrAnd}
use Rattle.std.specs.List.{FoldsTo}
use Rattle.std.specs.Path.{path_bytes, path_buf_bytes}
use Rattle.std.specs.declared.path.Path.{Path}
use Rattle.std.specs.declared.path.PathBuf.{PathBuf}
use Rattle.dotenvy_base.specs.declared.errors.Error.{Error}
use Rattle.dotenvy_base.specs.declared.errors.Error.TheVariants.{Io}
use Rattle.dotenvy_base.specs.declared.search.Look.{Look}
use Rattle.dotenvy_base.specs.Errors.{IsMemoryErr, IsNotFound}
use Rattle.dotenvy_base.specs.Search.{SearchEnd, FoundAt, EndedBy, FoundNowhere, Searches, path_in}

-- a path that was asked for, as bytes, with what the look returned
abbrev pub seen : Path × Look → List ℕ × Look
seen call = (path_bytes call.0, call.1)

-- the possible steps of a look, each from one state to the next: it is asked for a path, and returns what is there
abbrev pub LookStep : Type 0 → Type 1
LookStep F = F → Path → Look → F → Type 0

-- these paths were asked for, in this order, each by one call; each call starts from the state the last one left
pub record AsksInTurn {F : Type 0} (step : LookStep F) (before : F) (asked : List (List ℕ × Look))
    (after : F)
    : Type 0 where
  pub calls : List (Path × Look)
  pub are_asked : asked ≡ map seen calls
  pub steps : FoldsTo (λ look call next. step look call.0 call.1 next) before calls after

-- the result says the answer of the search: the path found, the fault that ended it, or an error of kind `NotFound`
abbrev pub AnswersSearch : {A : Type 0} → SearchEnd → Result (PathBuf A) (Error A) → Type 0
AnswersSearch (FoundAt path) result = IsOkAnd result (λ found. path_buf_bytes found ≡ path)
AnswersSearch (EndedBy fault) result = result ≡ Err (Io fault)
AnswersSearch FoundNowhere result = IsErrAnd result IsNotFound

-- a call of `find` asks for the paths of a search in order and returns its answer, or stops early if memory runs out
pub record Finds {F A : Type 0} (step : LookStep F) (before after : F) (directory name : List ℕ)
    (result : Result (PathBuf A) (Error A)) : Type 0 where
  pub asked : List (List ℕ × Look)
  pub later : List (List ℕ × Look)
  pub answer : SearchEnd
  pub searches : Searches directory name (asked ++ later) answer
  pub asks : AsksInTurn step before asked after
  pub outcome : IsMemoryErr result ⊎ ((later ≡ []) × AnswersSearch answer result)

-- the path is that of the name in some directory, whatever that is
abbrev pub IsPathOf : List ℕ → List ℕ → Type 0
IsPathOf name path = (directory : List ℕ) × (path ≡ path_in directory name)
