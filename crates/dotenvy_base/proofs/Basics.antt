-- Facts on tests, options and lists that many proofs use.
pub use Rattle.std.proofs.lemmas.List.{nil_from_length as nil_of}
use Rattle.std.proofs.Common.{◌≡◌, ◌≢◌, ℕ, ◌<◌, List, [], ◌∷◌, ◌++◌, length, ap, Bool}
use Rattle.std.proofs.Common.{true, false, refl, arith}
use Rattle.std.specs.Prelude.{◌==◌, IfOk, Result, Ok, Err}
use Rattle.std.proofs.lemmas.Bool.Decides.{nat_tests}

-- a list that has something has it still with more after it
pub more_some : (xs ys : List ℕ) → xs ≢ [] → xs ++ ys ≢ []
more_some [] ys h = absurd (h refl)
more_some (x ∷ xs) ys h = λ e. cc

-- A test for emptiness.
-- a list whose length was tested to be zero is empty
pub tested_empty : (xs : List ℕ) (n : ℕ) (b : Bool) → b ≡ (n == 0) → n ≡ length xs → b ≡ true → xs ≡ []
tested_empty xs n b test len is =
    nil_of xs (grind (arith, nat_tests))

-- a list whose length was tested not to be zero has something, and its length is above zero
pub tested_some : (xs : List ℕ) (n : ℕ) (b : Bool) → b ≡ (n == 0) → n ≡ length xs → b ≡ false → (0 < n) × (xs ≢ [])
tested_some xs n b test len is =
    let some : 0 < n = grind (arith, nat_tests) in
    (some, λ h. let l = ap length h in omega (arith, some, len, l))

-- where a fact of each value makes another, it does so of the value that is there, if there is one
pub ok-weaker : {T E : Type 0} (P Q : T → Type 0) (r : Result T E) → ((x : T) → P x → Q x) → IfOk r P → IfOk r Q
ok-weaker P Q (Ok x) f h = f x h
ok-weaker P Q (Err e) f h = tt
