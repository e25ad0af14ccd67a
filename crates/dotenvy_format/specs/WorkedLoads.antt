-- Worked loads: examples of what iteration and the loads make of files.
use Prim.Native.String.{String}
use Rattle.std.specs.Prelude.{◌≡◌, ℕ, List, [], ◌∷◌, Some, None, Result, Ok, Err, codes}
use Rattle.dotenvy_format.specs.declared.dialect.Dialect.TheVariants.{V15}
use Rattle.dotenvy_format.specs.Entries.{Entry, Failure, Nul, HasEntries}
use Rattle.dotenvy_format.specs.Items.{LookUp, no_values, with_value, items}
use Rattle.dotenvy_format.specs.Run.{Loaded}
use Rattle.dotenvy_format.specs.Loads.{load_result, override_result}
use Rattle.dotenvy_format.specs.WorkedFiles.{file, text_piece, name_of, declares}

-- an item that is a pair
abbrev pub pair_of : String → String → Result (List ℕ × List ℕ) Failure
pair_of key text = Ok (codes key, codes text)

-- an environment with only this name
abbrev pub with_only : String → String → LookUp
with_only name text = with_value no_values (codes name) (codes text)

-- after the load, the name has this value
abbrev pub HasValue : Loaded → String → String → Type 0
HasValue loaded name text = loaded.env (codes name) ≡ Some (codes text)

-- after the load, the name is absent
abbrev pub IsAbsent : Loaded → String → Type 0
IsAbsent loaded name = loaded.env (codes name) ≡ None

-- a file with two values of one name, and a use of it
abbrev pub two_values : List Entry
two_values =
    declares "A" (text_piece "1" ∷ []) ∷ declares "A" (text_piece "2" ∷ [])
    ∷ declares "B" (name_of "A" ∷ []) ∷ []

-- a file with a NUL in the second of three values
abbrev pub with_nul : List Entry
with_nul =
    declares "A" (text_piece "1" ∷ [])
    ∷ declares "B" (text_piece "x" ∷ text_piece "\0" ∷ text_piece "y" ∷ [])
    ∷ declares "C" (text_piece "3" ∷ []) ∷ []

-- which of two values of a name counts
abbrev pub HaveRepeats : Type 0
HaveRepeats =
    HasEntries V15 (file "A=1\nA=2\nB=$A\n") two_values
    -- iteration gives both, and a name means the last value before it
    × (items no_values two_values ≡ pair_of "A" "1" ∷ pair_of "A" "2" ∷ pair_of "B" "2" ∷ [])
    -- `load` takes the first, and a name means it
    × HasValue (load_result no_values no_values two_values) "A" "1"
    × HasValue (load_result no_values no_values two_values) "B" "1"
    -- `load_override` takes the last, and a name means the last before it
    × HasValue (override_result no_values no_values two_values) "A" "2"
    × HasValue (override_result no_values no_values two_values) "B" "2"
    -- if the environment has A=0, a name means that value in iteration and in `load`
    ×
    (items (with_only "A" "0") two_values
    ≡ pair_of "A" "1" ∷ pair_of "A" "2" ∷ pair_of "B" "0" ∷ [])
    × HasValue (load_result (with_only "A" "0") no_values two_values) "A" "0"
    × HasValue (load_result (with_only "A" "0") no_values two_values) "B" "0"
    × HasValue (override_result (with_only "A" "0") no_values two_values) "B" "2"
    -- a remembered value counts if there is no other
    × HasValue (load_result no_values (with_only "A" "1") (declares "C" (name_of "A" ∷ []) ∷ []))
    "C" "1"
    × IsAbsent (load_result no_values (with_only "A" "1") (declares "C" (name_of "A" ∷ []) ∷ []))
    "A"

-- where a NUL stops a load
abbrev pub HaveNuls : Type 0
HaveNuls =
    HasEntries V15 (file "A=1\nB=\"x\0y\"\nC=3\n") with_nul
    -- `load` stops only where it would set the value, and keeps what it has set
    × ((load_result no_values no_values with_nul).answer ≡ Err (Nul (codes "B")))
    × HasValue (load_result no_values no_values with_nul) "A" "1"
    × IsAbsent (load_result no_values no_values with_nul) "C"
    × ((load_result (with_only "B" "old") no_values with_nul).answer ≡ Ok tt)
    × HasValue (load_result (with_only "B" "old") no_values with_nul) "B" "old"
    × HasValue (load_result (with_only "B" "old") no_values with_nul) "C" "3"
    -- `load_override` would set each
    × ((override_result (with_only "B" "old") no_values with_nul).answer ≡ Err (Nul (codes "B")))
    × HasValue (override_result (with_only "B" "old") no_values with_nul) "A" "1"
    × HasValue (override_result (with_only "B" "old") no_values with_nul) "B" "old"
    × IsAbsent (override_result (with_only "B" "old") no_values with_nul) "C"
