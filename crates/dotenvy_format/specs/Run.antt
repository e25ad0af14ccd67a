-- Loading one entry after another into an environment that changes.
use Rattle.std.specs.Prelude.{ℕ, Bool, true, ◌&&◌, ◌==◌, List, [], ◌∷◌, Result, Ok, Err, is_none, if◌then◌else◌}
use Rattle.std.specs.List.{list_any}
use Rattle.dotenvy_format.specs.Entries.{Failure, Entry, Declares, Fails, Nul}
use Rattle.dotenvy_format.specs.Items.{LookUp, meaning, or_else, with_value}

-- what a load does with a name that has a value: `load` keeps the value, `load_override` replaces it
pub data Mode : Type 0 where
  Keep : Mode
  Replace : Mode

-- what a load results in: the environment after it, and what it returns
pub record Loaded : Type 0 where
  pub env : LookUp
  pub answer : Result (Unit {0}) Failure

-- the text has a NUL
abbrev pub has_nul : List ℕ → Bool
has_nul text = list_any (λ c. c == 0) text

-- a load in this mode would set this name
abbrev pub sets : Mode → LookUp → List ℕ → Bool
sets Keep env key = is_none (env key)
sets Replace env key = true

-- the environment after a declaration, which is set or skipped
abbrev pub after_declaration : Mode → LookUp → List ℕ → List ℕ → LookUp
after_declaration mode env key value = if sets mode env key then with_value env key value else env

-- a load of one entry after another; a name means its value in the environment by then, or else the last one remembered
abbrev pub run : Mode → LookUp → LookUp → List Entry → Loaded
run mode env remembered [] = record { env = env; answer = Ok tt }
run mode env remembered (Fails failure ∷ entries) = record { env = env; answer = Err failure }
run mode env remembered (Declares key pieces ∷ entries) =
    let value = meaning (or_else env remembered) pieces in
    if sets mode env key && has_nul value
    then record { env = env; answer = Err (Nul key) }
    else run mode (after_declaration mode env key value) (with_value remembered key value) entries
