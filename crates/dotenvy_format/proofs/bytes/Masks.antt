-- Masks of blocks: what a comparison of all bytes at once tells of each, and where the first byte of a kind is.
use Rattle.std.proofs.Common.{◌≡◌, ℕ, ◌+◌, ◌-◌, ◌%◌, ◌^◌, ◌<◌, ◌≤◌, Bool, true, false, not, cond, eqb, ltb, leb}
use Rattle.std.proofs.Common.{bit_or}
use Rattle.std.specs.Prelude.{◌||◌}
use Rattle.std.proofs.Common.{List, [], ◌∷◌, map, length, Some, None, inl, inr, refl, ap, ap₂, ◌∙◌, arith, w8, Fits}
use Rattle.std.specs.List.{prefix_len, position_from}
use Rattle.std.specs.Simd.Lanes.{mask_l, top, Each1}
use Rattle.std.proofs.lemmas.Bool.{agree_below, agree_below_at, cases_eq}
use Rattle.std.proofs.lemmas.List.{length-map}
use Rattle.std.proofs.lemmas.List.Sums.{prefix_len-le-length}
use Rattle.std.proofs.lemmas.Simd.{map-map, mask_l-mod, leading_from_mask_l, trailing_mask_l}
use Rattle.std.specs.Int.{w64, trailing_zeros}

-- a lane that is all ones where two bytes are the same, and one where the first is below the second, or at most that
abbrev pub same_lane : ℕ → ℕ → ℕ
same_lane a b = cond (eqb a b) 255 0

abbrev pub below_lane : ℕ → ℕ → ℕ
below_lane a b = cond (ltb a b) 255 0

abbrev pub at_most_lane : ℕ → ℕ → ℕ
at_most_lane a b = cond (leb a b) 255 0

-- a lane of a difference, which wraps
abbrev pub difference : ℕ → ℕ → ℕ
difference a b = (a + (256 - b)) % 256

-- the comparison of each lane is the test of its byte
each_byte : (lane : ℕ → ℕ) (test : ℕ → Bool) → agree_below (λ b. top 7 (lane b)) test 256 ≡ true → (block : List ℕ)
    → Each1 (Fits w8) block → map (λ b. top 7 (lane b)) block ≡ map test block
each_byte lane test all [] fits = refl
each_byte lane test all (b ∷ block) fits =
    ap₂ (λ x xs. x ∷ xs) (agree_below_at (λ b. top 7 (lane b)) test 256 b all fits.0.fits)
    (each_byte lane test all block fits.1)

-- where the lanes are computed from the bytes of a block, one by one, their mask is that of a test of each byte
pub masked : (lane : ℕ → ℕ) (test : ℕ → Bool) (block lanes : List ℕ) → length block ≤ 64 → Each1 (Fits w8) block
    → lanes ≡ map lane block → agree_below (λ b. top 7 (lane b)) test 256 ≡ true
    → mask_l (map (top 7) lanes) % 2 ^ 64 ≡ mask_l (map test block)
masked lane test block lanes short fits same all =
    ap (λ it. mask_l it % 2 ^ 64) (ap (map (top 7)) same ∙ map-map (top 7) lane block
    ∙ each_byte lane test all block fits) ∙ mask_l-mod (map test block) 64 (omega (arith, length-map block test))

-- where all that come before fail a test, the search for one that passes finds none
none_before : (test : ℕ → Bool) (n : ℕ) (bytes : List ℕ) → prefix_len (λ b. not (test b)) bytes ≡ length bytes
    → position_from test n bytes ≡ None
none_before test n [] h = refl
none_before test n (b ∷ bytes) h = grind (arith, none_before test (n + 1) bytes)

-- where not all fail a test, the search finds the first that passes
first_after : (test : ℕ → Bool) (n : ℕ) (bytes : List ℕ) → prefix_len (λ b. not (test b)) bytes < length bytes
    → position_from test n bytes ≡ Some (n + prefix_len (λ b. not (test b)) bytes)
first_after test n [] h = absurd (omega arith)
first_after test n (b ∷ bytes) h = grind (arith, first_after test (n + 1) bytes)

-- where all fail a test, no bit of its mask is set
none_in_mask : (test : ℕ → Bool) (bytes : List ℕ) → prefix_len (λ b. not (test b)) bytes ≡ length bytes
    → mask_l (map test bytes) ≡ 0
none_in_mask test [] h = refl
none_in_mask test (b ∷ bytes) h = grind (arith, none_in_mask test bytes)

-- where no bit of a test's mask is set, the search finds no byte that passes
pub none_set : (test : ℕ → Bool) (block : List ℕ) → mask_l (map test block) ≡ 0 → position_from test 0 block ≡ None
none_set test block none = none_before test 0 block (leading_from_mask_l test block none)

-- where one is set, the lowest tells the first byte that passes
pub lowest_set : (test : ℕ → Bool) (block : List ℕ) → length block ≤ 64 → 0 < mask_l (map test block)
    → position_from test 0 block ≡ Some (trailing_zeros w64 (mask_l (map test block)))
lowest_set test block short some =
    let lowest : trailing_zeros w64 (mask_l (map test block)) ≡ prefix_len (λ b. not (test b)) block =
    trailing_mask_l test 64 block short some in
    elim (cases_eq (prefix_len (λ b. not (test b)) block) (length block)) [
      | inl all ↦ absurd (omega (arith, none_in_mask test block all))
      | inr not_all ↦
          first_after test 0 block (omega (arith, prefix_len-le-length (λ b. not (test b)) block))
          ∙ ap Some (omega (arith, lowest))
    ]

-- so it is where the test is of whether a byte is one of three
one_of_three : (x y z : Bool) →
    top 7 (bit_or (bit_or (cond x 255 0) (cond y 255 0)) (cond z 255 0)) ≡ not (not ((x || y) || z))
one_of_three true true true = refl
one_of_three true true false = refl
one_of_three true false true = refl
one_of_three true false false = refl
one_of_three false true true = refl
one_of_three false true false = refl
one_of_three false false true = refl
one_of_three false false false = refl

each_of_three : (x y z : ℕ) (block : List ℕ) →
    map (λ b. top 7 (bit_or (bit_or (same_lane b x) (same_lane b y)) (same_lane b z))) block
    ≡ map (λ b. not (not ((eqb b x || eqb b y) || eqb b z))) block
each_of_three x y z [] = refl
each_of_three x y z (b ∷ block) =
    ap₂ (λ c cs. c ∷ cs) (one_of_three (eqb b x) (eqb b y) (eqb b z)) (each_of_three x y z block)

pub masked_three : (x y z : ℕ) (block lanes : List ℕ) → length block ≤ 64
    → lanes ≡ map (λ b. bit_or (bit_or (same_lane b x) (same_lane b y)) (same_lane b z)) block
    → mask_l (map (top 7) lanes) % 2 ^ 64 ≡ mask_l (map (λ b. not (not ((eqb b x || eqb b y) || eqb b z))) block)
masked_three x y z block lanes short same =
    let lane = λ (b : ℕ). bit_or (bit_or (same_lane b x) (same_lane b y)) (same_lane b z) in
    let test = λ (b : ℕ). not (not ((eqb b x || eqb b y) || eqb b z)) in
    ap (λ it. mask_l it % 2 ^ 64) (ap (map (top 7)) same ∙ map-map (top 7) lane block
    ∙ each_of_three x y z block) ∙ mask_l-mod (map test block) 64 (omega (arith, length-map block test))
