-- What both loads result in, said without a changing environment: by the environment before, and all declarations. A
-- run (Run) takes entry after entry over an environment that changes; the law `loads_in_turn` says that it comes to the
-- same.
use Rattle.std.specs.Prelude.{◌≡◌, ℕ, Bool, true, ◌&&◌, List, [], ◌∷◌, ◌++◌, Some, None, Result, Ok}
use Rattle.std.specs.Prelude.{Err, is_none, bytes_eq, if◌then◌else◌}
use Rattle.std.specs.Option.{option_or}
use Rattle.dotenvy_format.specs.Entries.{Failure, Entry, Declares, Fails, Nul}
use Rattle.dotenvy_format.specs.Items.{LookUp, meaning, or_else, first_value}
use Rattle.dotenvy_format.specs.Run.{Loaded, has_nul}

-- the declarations that a load reaches, with their values, and where it stops: at an error, or at the end
pub record Declared : Type 0 where
  pub pairs : List (List ℕ × List ℕ)
  pub stop : Result (Unit {0}) Failure

-- the look-up in a list of pairs, where the last pair with a key counts
abbrev pub last_value : List (List ℕ × List ℕ) → LookUp
last_value [] name = None
last_value ((key, value) ∷ pairs) name =
    option_or (last_value pairs name) (if bytes_eq key name then Some value else None)

-- the declarations up to the stop; `look_up earlier` says what a name means, `matters earlier key` whether a NUL stops
abbrev pub declared_from : (List (List ℕ × List ℕ) → LookUp) →
    (List (List ℕ × List ℕ) → List ℕ → Bool) → List (List ℕ × List ℕ) → List Entry → Declared
declared_from look_up matters earlier [] = record { pairs = earlier; stop = Ok tt }
declared_from look_up matters earlier (Fails failure ∷ entries) =
    record { pairs = earlier; stop = Err failure }
declared_from look_up matters earlier (Declares key pieces ∷ entries) =
    let value = meaning (look_up earlier) pieces in
    if matters earlier key && has_nul value
    then record { pairs = earlier; stop = Err (Nul key) }
    else declared_from look_up matters (earlier ++ (key, value) ∷ []) entries

-- in `load`, a name means its value in the environment, or that of the first earlier declaration, or what is remembered
abbrev pub load_look_up : LookUp → LookUp → List (List ℕ × List ℕ) → LookUp
load_look_up env remembered earlier = or_else env (or_else (first_value earlier) remembered)

-- neither the environment nor an earlier declaration has this name
abbrev pub is_first_of_absent : LookUp → List (List ℕ × List ℕ) → List ℕ → Bool
is_first_of_absent env earlier key = is_none (env key) && is_none (first_value earlier key)

-- the result of `load`: each absent name that is declared before the stop gets its first value there
abbrev pub load_result : LookUp → LookUp → List Entry → Loaded
load_result env remembered entries =
    let declared =
    declared_from (load_look_up env remembered) (is_first_of_absent env) [] entries in
    record { env = or_else env (first_value declared.pairs); answer = declared.stop }

-- in `load_override`, a name means its last earlier declared value, or that in the environment, or the remembered one
abbrev pub override_look_up : LookUp → LookUp → List (List ℕ × List ℕ) → LookUp
override_look_up env remembered earlier = or_else (last_value earlier) (or_else env remembered)

-- the result of `load_override`: each name that is declared before the stop gets its last value there
abbrev pub override_result : LookUp → LookUp → List Entry → Loaded
override_result env remembered entries =
    let declared =
    declared_from (override_look_up env remembered) (λ earlier key. true) [] entries in
    record { env = or_else (last_value declared.pairs) env; answer = declared.stop }

-- two loads return the same, and leave the same value of each name
pub record SameLoad (load other : Loaded) : Type 0 where
  pub env : (name : List ℕ) → load.env name ≡ other.env name
  pub answer : load.answer ≡ other.answer
