-- How many places of a text have a byte that passes a test.
use Rattle.std.proofs.Common.{◌≡◌, ℕ, ◌-◌, Bool, filter, List, [], ◌∷◌, ◌++◌, refl, length, length-append, append_assoc}
use Rattle.std.proofs.Common.{arith}
use Rattle.std.proofs.Math.Seq.{get_or-append_seam}
use Rattle.memchr.specs.Find.{places, places_from}

-- after a front of any bytes, there are as many places that pass a test as bytes that do
places_kept : (test : ℕ → Bool) (front back : List ℕ)
    → length (places_from test (front ++ back) (length front) (length back)) ≡ length (filter test back)
unfolding places_from
places_kept test front [] = refl
places_kept test front (b ∷ back) =
    let later = simp (append_assoc, length-append) at (places_kept test (front ++ b ∷ []) back) in
    rw get_or-append_seam (grind (arith, later))

-- bytes have as many places that pass a test as they have bytes that do
pub places_count : (test : ℕ → Bool) (bytes : List ℕ) → length (places test bytes) ≡ length (filter test bytes)
places_count test bytes =
    let e : length bytes - 0 ≡ length bytes = omega arith in rw e (places_kept test [] bytes)
