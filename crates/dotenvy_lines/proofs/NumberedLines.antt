-- How many physical lines were taken, as 64 bits count them.
use Rattle.std.proofs.Common.{◌≡◌, ◌+◌, ◌^◌, ◌-◌, ℕ, suc, arith}
use Rattle.std.specs.Prelude.{min}
use Rattle.dotenvy_lines.specs.Lines.{Counts}

-- one more line is counted, as long as 64 bits hold the number
pub counts_one : (before count now after more : ℕ) → Counts before count now → after ≡ min (now + 1) (2 ^ 64 - 1) →
    more ≡ suc count → Counts before more after
counts_one before count now after more counts e m fits = omega (arith, counts)

-- no line is counted yet
pub counts_none : (before : ℕ) → Counts before 0 before
counts_none before fits = omega arith

-- what was counted in two steps is counted in one
pub counts_more : (before count now more after : ℕ) → Counts before count now → Counts now more after →
    Counts before (count + more) after
counts_more before count now more after first second fits =
    omega (arith, first, second)
