-- The end of the last line that has one, and the last byte, as the code finds them.
use Rattle.std.proofs.Common.{◌≡◌, ◌≢◌, ℕ, zero, suc, ◌-◌, ◌<◌, true, not, List, [], ◌∷◌}
use Rattle.std.proofs.Common.{length, take, refl, ◌∙◌, arith, inl, inr, Some, None}
use Rattle.std.specs.Prelude.{◌==◌, nat_eq, slice_index, if◌then◌else◌}
use Rattle.std.specs.List.{ends_with}
use Rattle.std.proofs.lemmas.Bool.{cases_Bool, eqb-true}
use Rattle.std.proofs.lemmas.Bool.Decides.{nat_tests}
use Rattle.memchr.specs.Find.{IsLastByte, is_byte}
use Rattle.dotenvy_format.specs.Characters.{carriage_return, line_feed}
use Rattle.dotenvy_editor.specs.Ends.{ends_in, feed, last_end, last_end_from, return_feed}

-- The last byte.
-- bytes end with one other just where the last byte is it
pub ends_with_one : (c : ℕ) (bytes : List ℕ) → ends_with nat_eq bytes (c ∷ []) ≡ ends_in c bytes
ends_with_one c [] = refl
ends_with_one c (d ∷ []) = grind (arith, nat_tests)
ends_with_one c (d ∷ e ∷ bytes) =
    let less : length (d ∷ e ∷ bytes) - 1 ≡ suc (length (e ∷ bytes) - 1) = omega arith in
    rw less (ends_with_one c (e ∷ bytes))

-- The end of the last line.
-- the end after a front of the last line, of which this is the last byte
abbrev end_behind : List ℕ → List ℕ
end_behind front = if ends_in carriage_return front then return_feed else feed

-- where no byte is a line feed, the end is that of the lines before
none_from : (end : List ℕ) (c : ℕ) (bytes : List ℕ) →
    ((k : ℕ) → k < length bytes → slice_index bytes k ≢ line_feed) → last_end_from end c bytes ≡ end
none_from end c [] none = refl
none_from end c (d ∷ bytes) none = elim (cases_Bool (d == line_feed)) [
  | inl is ↦ absurd (none 0 (omega arith) (eqb-true d line_feed is))
  | inr not ↦ rw not (none_from end d bytes (λ k below. none (suc k) (omega (arith, below))))
]

-- the end of the last line is at the last line feed
last_from : (end : List ℕ) (c : ℕ) (bytes : List ℕ) (place : ℕ) → place < length bytes →
    slice_index bytes place ≡ line_feed →
    ((k : ℕ) → place < k → k < length bytes → slice_index bytes k ≢ line_feed) →
    last_end_from end c bytes ≡ end_behind (c ∷ take place bytes)
last_from end c [] place within is none = absurd (omega arith)
last_from end c (d ∷ bytes) zero within is none =
    rw is (none_from (end_behind (c ∷ [])) line_feed bytes
    (λ k below. none (suc k) (omega arith) (omega (arith, below))))
last_from end c (d ∷ bytes) (suc place) within is none =
    last_from (if d == line_feed then if c == carriage_return then return_feed else feed else end) d bytes place
    (omega (arith, within)) is
    (λ k after below. none (suc k) (omega (arith, after)) (omega (arith, below)))

-- a byte before all bytes, which is no carriage return, changes no end
behind_zero : (front : List ℕ) → end_behind (0 ∷ front) ≡ end_behind front
behind_zero [] = refl
behind_zero (c ∷ front) = refl

-- a byte that passes the test for a line feed is one
feed_is : (bytes : List ℕ) (k : ℕ) → is_byte 10 (slice_index bytes k) ≡ true → slice_index bytes k ≡ line_feed
feed_is bytes k is = eqb-true (slice_index bytes k) line_feed is

-- the end of the last line, by the place of its line feed
pub last_end_at : (bytes : List ℕ) (place : ℕ) → IsLastByte (is_byte 10) bytes (Some place) →
    last_end bytes ≡ (if ends_in carriage_return (take place bytes) then return_feed else feed)
last_end_at bytes place (alone, is) =
    last_from feed 0 bytes place alone.high (feed_is bytes place is)
    (λ k after below feeds. alone.after k (omega (arith, after)) below (rw feeds refl))
    ∙ behind_zero (take place bytes)

-- a file without a line feed has lines that end with one
pub last_end_none : (bytes : List ℕ) → IsLastByte (is_byte 10) bytes None → last_end bytes ≡ feed
last_end_none bytes none = none_from feed 0 bytes (λ k below feeds. none k (omega arith) below (rw feeds refl))
