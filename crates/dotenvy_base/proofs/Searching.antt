-- A search under way: what was asked so far, and each way out.
use denote.Enum.Bare.{sameb}
use Rattle.std.specs.contracts.io.ErrorKind.{the_type}
use Rattle.std.proofs.Common.{◌≡◌, ℕ, suc, ◌<◌, Bool, true, false, not, cond, List, [], ◌∷◌, ◌++◌}
use Rattle.std.proofs.Common.{map, Option, Some, None, Result, Ok, Err, refl, sym, ◌∙◌, ap}
use Rattle.std.proofs.Common.{inl, inr, arith, length}
use Rattle.std.specs.Prelude.{◌⊎◌, IsTrue}
use Rattle.std.specs.Option.{option_map}
use Rattle.std.specs.IoError.{error_kind}
use Rattle.std.specs.Path.{path_bytes, path_buf_bytes}
use Rattle.std.specs.declared.io.Error.{Error as IoError}
use Rattle.std.specs.declared.io.ErrorKind.{ErrorKind}
use Rattle.std.specs.declared.io.ErrorKind.TheVariants.{NotFound}
use Rattle.std.specs.declared.path.Path.{Path}
use Rattle.std.specs.declared.path.PathBuf.{PathBuf}
use Rattle.dotenvy_base.specs.declared.errors.Error.{Error}
use Rattle.dotenvy_base.specs.declared.errors.Error.TheVariants.{Io}
use Rattle.dotenvy_base.specs.declared.search.Look.{Look}
use Rattle.dotenvy_base.specs.declared.search.Look.TheVariants.{Other, Fault}
use Rattle.dotenvy_base.specs.Errors.{IsMemoryErr}
use Rattle.dotenvy_base.specs.Search.{path_in, parent_of, Ascends, is_not_found, ends_search}
use Rattle.dotenvy_base.specs.Search.{AreAsked, SearchEnd, FoundAt, FoundNowhere, EndedBy}
use Rattle.dotenvy_base.specs.Search.{search_answer, Searches}
use Rattle.dotenvy_base.specs.Find.{LookStep, AsksInTurn, AnswersSearch, Finds, IsPathOf}
use Rattle.std.proofs.lemmas.Bool.{not-true}
use Rattle.dotenvy_base.proofs.SearchOnce.{ascent_exists, search_exists, parent_shorter}

-- the code's test of a kind
same_kind : (kind : ErrorKind) → sameb the_type kind NotFound ≡ is_not_found kind
same_kind NotFound = refl
same_kind _ = refl

-- the code's test whether a fault ends the search
pub ends_by_test : (fault : IoError) (kind : ErrorKind) (test : Bool) → kind ≡ error_kind fault →
    test ≡ not (sameb the_type kind NotFound) → ends_search (Fault fault) ≡ test
ends_by_test fault kind test k t = rw (← k, t, same_kind kind) refl

-- a fault that ends the search is its answer
pub answers_fault : (A : Type 0) (fault : IoError) → ends_search (Fault fault) ≡ true →
    AnswersSearch {A = A} (cond (is_not_found (error_kind fault)) FoundNowhere (EndedBy fault)) (Err (Io fault))
answers_fault A fault h = rw (not-true _ h) refl

-- the directories begin with the first
ascends_first : (directory first : List ℕ) (others : List (List ℕ)) →
    Ascends directory (first ∷ others) → first ≡ directory
ascends_first directory first others h = grind arith

-- the directories from a parent on, with the directory before them
ascends_more : (directory parent : List ℕ) (above : List (List ℕ)) → parent_of directory ≡ Some parent →
    Ascends parent above → Ascends directory (directory ∷ above)
ascends_more directory parent above e h = grind (arith, ascends_first parent)

-- what doesn't end a search doesn't answer it
answer_past : (path : List ℕ) (look : Look) (asked : List (List ℕ × Look)) → ends_search look ≡ false →
    search_answer ((path, look) ∷ asked) ≡ search_answer asked
answer_past path look asked h = grind arith

-- what is still to be asked, from a directory on or from none
abbrev pub SearchesOn : Option (List ℕ) → List ℕ → List (List ℕ × Look) → SearchEnd → Type 0
SearchesOn None name asked answer = (asked ≡ []) × (answer ≡ FoundNowhere)
SearchesOn (Some directory) name asked answer = Searches directory name asked answer

-- a search that goes on after a directory is one from that directory
searches_past : (directory name : List ℕ) (above : Option (List ℕ)) (look : Look) (asked : List (List ℕ × Look))
    (answer : SearchEnd) → parent_of directory ≡ above → ends_search look ≡ false → SearchesOn above name asked answer →
    Searches directory name ((path_in directory name, look) ∷ asked) answer
searches_past directory name None look asked answer e h s = record {
  directories = directory ∷ [];
  ascends = (refl, e);
  are_asked = (refl, inr (ap not h, s.0));
  answers = s.1 ∙ sym (answer_past (path_in directory name) look asked h ∙ ap search_answer s.0);
}
searches_past directory name (Some parent) look asked answer e h s = record {
  directories = directory ∷ s.directories;
  ascends = ascends_more directory parent s.directories e s.ascends;
  are_asked = (refl, inr (ap not h, s.are_asked));
  answers = s.answers ∙ sym (answer_past (path_in directory name) look asked h);
}

-- a search that ends at its first candidate
searches_ended : (directory name : List ℕ) (look : Look) → ends_search look ≡ true →
    Searches directory name ((path_in directory name, look) ∷ []) (search_answer ((path_in directory name, look) ∷ []))
searches_ended directory name look h = let a = ascent_exists directory in
    record { directories = directory ∷ a.0; ascends = a.1; are_asked = (refl, inl (h, refl)); answers = refl }

-- no call was made yet
no_calls : {F : Type 0} (step : LookStep F) (look : F) → AsksInTurn step look [] look
no_calls step look = record { calls = []; are_asked = refl; steps = refl }

-- so far the search was asked: what is asked from here on completes it
pub record Asking {F : Type 0} (step : LookStep F) (start : F) (directory name : List ℕ) (above : Option (List ℕ))
    (look : F) : Type 0 where
  pub completes : (asked later : List (List ℕ × Look)) (answer : SearchEnd) (end : F) →
      SearchesOn above name (asked ++ later) answer → AsksInTurn step look asked end →
      (front : List (List ℕ × Look)) ×
      Searches directory name (front ++ later) answer × AsksInTurn step start front end

module _ {F : Type 0} {step : LookStep F} {start : F} {directory name : List ℕ} where
  -- at a directory the candidate was asked for and the search goes on
  pub asking_on : {place : List ℕ} {above : Option (List ℕ)} {before after : F} {path : Path} {look : Look} →
      Asking step start directory name (Some place) before → path_bytes path ≡ path_in place name →
      step before path look after → parent_of place ≡ above → ends_search look ≡ false →
      Asking step start directory name above after
  asking_on {place} {above} {path = path} {look} asking p call e h = record {
    completes = λ asked later answer end s a.
        asking.completes ((path_in place name, look) ∷ asked) later answer end
        (searches_past place name above look (asked ++ later) answer e h s) (record {
          calls = (path, look) ∷ a.calls;
          are_asked = rw (p, a.are_asked) refl;
          steps = (_, call, a.steps);
        });
  }

  -- what was asked so far, and what was asked last, is what the search asks
  finds : {A : Type 0} {above : Option (List ℕ)} {look end : F} {result : Result (PathBuf A) (Error A)}
      (asked later : List (List ℕ × Look)) (answer : SearchEnd) → Asking step start directory name above look →
      SearchesOn above name (asked ++ later) answer → AsksInTurn step look asked end →
      IsMemoryErr result ⊎ ((later ≡ []) × AnswersSearch answer result) → Finds step start end directory name result
  finds asked later answer asking s a outcome =
      let whole = asking.completes asked later answer _ s a in record {
        asked = whole.0;
        later = later;
        answer = answer;
        searches = whole.1;
        asks = whole.2;
        outcome = outcome;
      }

  -- a failed allocation cuts the search short
  pub finds_cut : {A : Type 0} {look : F} {place : List ℕ} {result : Result (PathBuf A) (Error A)} →
      Asking step start directory name (Some place) look → IsMemoryErr result →
      Finds step start look directory name result
  finds_cut {look = look} {place} asking memory =
      let rest = search_exists place name (λ _. Other) in
      finds [] rest.0 (search_answer rest.0) asking rest.1 (no_calls step look) (inl memory)

  -- what is at a candidate ends the search
  pub finds_ended : {A : Type 0} {before after : F} {place : List ℕ} {path : Path} {look : Look}
      {result : Result (PathBuf A) (Error A)} → Asking step start directory name (Some place) before →
      path_bytes path ≡ path_in place name → step before path look after → ends_search look ≡ true →
      AnswersSearch (search_answer ((path_in place name, look) ∷ [])) result →
      Finds step start after directory name result
  finds_ended {after = after} {place} {path} {look} asking p call h answers =
      let last = (path_in place name, look) ∷ [] in
      finds last [] (search_answer last) asking (searches_ended place name look h)
      (record { calls = (path, look) ∷ []; are_asked = rw p refl; steps = (after, call, refl) }) (inr (refl, answers))

  -- no directory is left
  pub finds_none : {A : Type 0} {look : F} {result : Result (PathBuf A) (Error A)} →
      Asking step start directory name None look → AnswersSearch FoundNowhere result →
      Finds step start look directory name result
  finds_none {look = look} asking answers =
      finds [] [] FoundNowhere asking (refl, refl) (no_calls step look) (inr (refl, answers))

-- how much is left of the directories: more than of those above
abbrev pub size_of : Option Path → ℕ
size_of None = 0
size_of (Some directory) = suc (length (path_bytes directory))

-- a directory above leaves less
pub parent_is_less : (directory : Path) (above : Option Path) →
    option_map path_bytes above ≡ parent_of (path_bytes directory) → size_of above < size_of (Some directory)
parent_is_less directory above h = grind (arith, parent_shorter (path_bytes directory))

-- what doesn't end a search lets it go on
went_on : (ends : Bool) (Ended GoesOn : Type 0) →
    (IsTrue ends × Ended) ⊎ (IsTrue (not ends) × GoesOn) → ends ≡ false → GoesOn
went_on ends Ended GoesOn x h = grind arith

-- a path that a search finds is that of the name in one of the directories
found_among : (name : List ℕ) (directories : List (List ℕ)) (asked : List (List ℕ × Look)) (path : List ℕ) →
    AreAsked (map (λ d. path_in d name) directories) asked → search_answer asked ≡ FoundAt path → IsPathOf name path
found_among name [] asked path a h = grind arith
found_among name (d ∷ directories) asked path a h = grind (arith, found_among name directories)

-- where the answer is no error, no allocation failed
not_cut : {A Later : Type 0} (path : PathBuf A) (answer : SearchEnd) →
    IsMemoryErr {T = PathBuf A} {A = A} (Ok path) ⊎ (Later × AnswersSearch {A = A} answer (Ok path)) →
    AnswersSearch {A = A} answer (Ok path)
not_cut path answer whole = grind arith

-- what `find` returns is the path of the name in some directory
pub finds_a_path : {F A : Type 0} (step : LookStep F) (before after : F) (directory name : List ℕ) (path : PathBuf A) →
    Finds step before after directory name (Ok path) → IsPathOf name (path_buf_bytes path)
finds_a_path {A} step before after directory name path finds =
    at finds.answer (not_cut path finds.answer finds.outcome) finds.searches
  where
    at : (answer : SearchEnd) → AnswersSearch {A = A} answer (Ok path) →
        Searches directory name (finds.asked ++ finds.later) answer → IsPathOf name (path_buf_bytes path)
    at (FoundAt found) e s = let p =
        found_among name s.directories (finds.asked ++ finds.later) found s.are_asked (sym s.answers) in (p.0, e ∙ p.1)
    at (EndedBy fault) e s = cc
    at FoundNowhere e s = absurd e
