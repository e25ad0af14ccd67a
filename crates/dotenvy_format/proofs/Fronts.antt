-- The longest front of a text that can be completed, whatever reads it, mode by mode.
use Rattle.std.proofs.Common.{ℕ, suc, ◌≤◌, ◌<◌, List, [], ◌∷◌, length, take, arith}

-- the first n characters can be completed, read from this mode, and no more
pub record Placed {M : Type 0} (Completes : List ℕ → M → Type 0) (text : List ℕ) (m : M) (n : ℕ) : Type 0 where
  pub within : n ≤ length text
  pub completed : Completes (take n text) m
  pub longest : n < length text → ¬ (Completes (take (suc n) text) m)

-- a character leads from one mode to another: what can be completed there can be with it in front, and conversely
pub record Leads {M : Type 0} (Completes : List ℕ → M → Type 0) (m : M) (c : ℕ) (n : M) : Type 0 where
  pub on : (cs : List ℕ) → Completes cs n → Completes (c ∷ cs) m
  pub back : (cs : List ℕ) → Completes (c ∷ cs) m → Completes cs n

-- where a character leads to another mode, the place is one more than in what follows it
pub placed_on : {M : Type 0} (Completes : List ℕ → M → Type 0) (m : M) (c : ℕ) (n : M) (cs : List ℕ) (place : ℕ) →
    Leads Completes m c n → Placed Completes cs n place → Placed Completes (c ∷ cs) m (suc place)
placed_on Completes m c n cs place leads p = record {
  within = let w = p.within in omega arith;
  completed = leads.on (take place cs) p.completed;
  longest = λ below done. p.longest (omega (arith, below)) (leads.back (take (suc place) cs) done);
}

-- where a character leads nowhere, the place is before it
pub placed_before : {M : Type 0} (Completes : List ℕ → M → Type 0) (m : M) (c : ℕ) (cs : List ℕ) → Completes [] m →
    ¬ (Completes (c ∷ []) m) → Placed Completes (c ∷ cs) m 0
placed_before Completes m c cs none nowhere =
    record { within = omega arith; completed = none; longest = λ below. nowhere }

-- in the empty text the place is its end
pub placed_at_end : {M : Type 0} (Completes : List ℕ → M → Type 0) (m : M) → Completes [] m → Placed Completes [] m 0
placed_at_end Completes m none =
    record { within = omega arith; completed = none; longest = λ below. absurd (omega (arith, below)) }
