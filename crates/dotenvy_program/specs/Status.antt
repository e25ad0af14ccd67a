-- The status that a program ends with.
use Rattle.std.specs.Prelude.{ℕ, ◌≡◌, ◌⊎◌, Result, Ok, Err}

-- the status that a result asks for: the one that it has, or this one for an error
abbrev pub status_of : {E : Type 0} → ℕ → Result ℕ E → ℕ
status_of failed (Ok status) = status
status_of failed (Err error) = failed

-- the program was not run, and the status is that of an error; or it was run on some words, and the status is that of
-- its result
abbrev pub EndsAs : {W : Type 0} {E : Type 0} → ℕ → (W → Result ℕ E → Type 0) → ℕ → Type 0
EndsAs {W = W} {E = E} failed runs status =
    (status ≡ failed)
    ⊎ ((words : W) × (result : Result ℕ E) × runs words result × (status ≡ status_of failed result))
