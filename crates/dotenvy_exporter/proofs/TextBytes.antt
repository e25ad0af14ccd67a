-- Tests on texts, by their bytes.
use Rattle.std.proofs.Common.{◌≡◌, ◌∙◌, ℕ, ◌<◌, ◌≤◌, Bool, true, false, List, []}
use Rattle.std.proofs.Common.{◌∷◌, ◌++◌, filter, get_or, length, inl, inr, refl, sym, ap, arith}
use Rattle.std.specs.Prelude.{◌==◌, Option, Some, None, is_some, encode_utf8, encode_utf8_all}
use Rattle.std.specs.List.{list_any}
use Rattle.std.specs.Str.{chars, IsAscii, IsUtf8}
use lib.Utf8.{encode}
use Rattle.std.proofs.Common.{◌-◌, suc}
use Rattle.std.specs.Prelude.{slice_get}
use Rattle.std.proofs.lemmas.List.{append-nil}
use Rattle.std.proofs.lemmas.Str.{chars-IsAscii, encode_ascii, encodes-chars, inside_one, length-le-encodes}
use Rattle.dotenvy_format.specs.Characters.{carriage_return}
use Rattle.std.proofs.lemmas.Bool.{cases_Bool, cases_lt}
use Rattle.std.proofs.lemmas.Bool.Decides.{nat_tests}
use Rattle.std.proofs.lemmas.List.Elements.{All-from_get_or}
use Rattle.std.proofs.lemmas.List.Folds.{list_any_at, list_any_none}
use Rattle.memchr.specs.Find.{IsFirstByte, is_byte}
use Rattle.dotenvy_format.proofs.bytes.ByteRuns.{characters_kept}
use Rattle.dotenvy_exporter.specs.Docker.{ends_in_return}
use Rattle.dotenvy_exporter.specs.Systemd.{has_noncharacter, is_noncharacter}
use Rattle.dotenvy_exporter.specs.Texts.{has}

-- there is an element
abbrev is_filled : List ℕ → Bool
is_filled [] = false
is_filled (x ∷ xs) = true

any_filled : (p : ℕ → Bool) (xs : List ℕ) → list_any p xs ≡ is_filled (filter p xs)
any_filled p [] = refl
any_filled p (x ∷ xs) =
    elim (cases_Bool (p x)) [ inl h ↦ rw h refl | inr h ↦ rw h (any_filled p xs) ]

-- a byte that is searched for is found if it is there
found_any : (a : ℕ) (bytes : List ℕ) (r : Option ℕ) → IsFirstByte (is_byte a) bytes r →
    is_some r ≡ list_any (λ b. b == a) bytes
found_any a bytes None none =
    sym (list_any_none (λ b. b == a) bytes (All-from_get_or (λ b. (b == a) ≡ false) bytes 0
    (λ k low. elim (cases_Bool (get_or bytes k 0 == a)) [ inl h ↦ absurd (none k (omega arith) low h) | inr h ↦ h ])))
found_any a bytes (Some k) first = sym (list_any_at (λ b. b == a) bytes k 0 first.0.high first.1)

-- an ASCII character is among the characters if its byte is among the bytes
pub has_character : (a : ℕ) (text : List ℕ) → a < 128 → IsUtf8 text → has a (chars text) ≡ has a text
has_character a text small utf8 =
    let ascii : (b : ℕ) → 128 ≤ b → (b == a) ≡ false = λ b high. grind (arith, nat_tests, high, small) in
    any_filled (λ b. b == a) (chars text)
    ∙ sym (ap is_filled (characters_kept (λ b. b == a) ascii text utf8))
    ∙ sym (any_filled (λ b. b == a) text)

-- a text of ASCII has no noncharacter
none_ascii : (bytes : List ℕ) → IsAscii bytes → has_noncharacter bytes ≡ false
none_ascii [] ascii = refl
none_ascii (b ∷ bytes) ascii =
    let small : b < 128 = ascii 0 in
    let one : is_noncharacter b ≡ false = grind (arith, nat_tests, small) in
    rw (one, none_ascii bytes (λ i. ascii (suc i))) refl

pub ascii_none : (text : List ℕ) → IsAscii text → has_noncharacter (chars text) ≡ false
ascii_none text ascii = rw (chars-IsAscii text ascii) (none_ascii text ascii)

-- an ASCII character is in a text where its byte is
pub has_byte : (a : ℕ) (text bytes : List ℕ) (r : Option ℕ) → a < 128 → IsUtf8 text → bytes ≡ text →
    IsFirstByte (is_byte a) bytes r → is_some r ≡ has a (chars text)
has_byte a text bytes r small utf8 same first =
    found_any a bytes r first ∙ ap (has a) same ∙ sym (has_character a text small utf8)

-- what is before other characters doesn't count
ends_behind : (xs : List ℕ) (y : ℕ) (ys : List ℕ) → ends_in_return (xs ++ y ∷ ys) ≡ ends_in_return (y ∷ ys)
ends_behind [] y ys = refl
ends_behind (x ∷ []) y ys = refl
ends_behind (x ∷ z ∷ xs) y ys = ends_behind (z ∷ xs) y ys

pub ends_last : (xs ys : List ℕ) → 0 < length ys → ends_in_return (xs ++ ys) ≡ ends_in_return ys
ends_last xs [] filled = absurd (omega arith)
ends_last xs (y ∷ ys) filled = ends_behind xs y ys

-- bytes from 128 on end in none
high_ends : (bytes : List ℕ) → ((k : ℕ) → k < length bytes → 128 ≤ get_or bytes k 0) → ends_in_return bytes ≡ false
high_ends [] high = refl
high_ends (b ∷ []) high =
    let first : 128 ≤ b = high 0 (omega arith) in let e : (b == carriage_return) ≡ false = grind (
      arith,
      nat_tests,
      first,
    ) in e
high_ends (b ∷ d ∷ bytes) high = high_ends (d ∷ bytes) (λ k low. high (suc k) (omega arith))

-- a character's bytes are from 128 on if it is not of ASCII
pub high_bytes : (c : ℕ) → 128 ≤ c → (k : ℕ) → k < length (encode_utf8 c) → 128 ≤ get_or (encode_utf8 c) k 0
high_bytes c big k below = elim (cases_lt (get_or (encode_utf8 c) k 0) 128) [
  | inl low ↦ absurd (omega (arith, inside_one c [] (encode_utf8 c) k (sym (append-nil _)) below low))
  | inr h ↦ h
]

-- a character's bytes end in a carriage return if it is one
character_ends : (c : ℕ) → ends_in_return (encode_utf8 c) ≡ (c == carriage_return)
character_ends c = elim (cases_lt c 128) [
  | inl small ↦ rw (encode_ascii c small) refl
  | inr big ↦
      let other : (c == carriage_return) ≡ false = grind (arith, nat_tests, big) in
      high_ends (encode_utf8 c) (high_bytes c big) ∙ sym other
]

-- so do those of characters
characters_end : (cs : List ℕ) → ends_in_return (encode_utf8_all cs) ≡ ends_in_return cs
unfolding encode
characters_end [] = refl
characters_end (c ∷ []) = rw (append-nil (encode_utf8 c)) (character_ends c)
characters_end (c ∷ d ∷ cs) =
    let filled : 0 < length (encode_utf8_all (d ∷ cs)) =
    omega (arith, length-le-encodes (d ∷ cs)) in
    ends_last (encode_utf8 c) (encode_utf8_all (d ∷ cs)) filled ∙ characters_end (d ∷ cs)

-- the byte is a carriage return, if there is one
abbrev pub is_return : Option ℕ → Bool
is_return None = false
is_return (Some b) = b == carriage_return

last_ends : (bytes : List ℕ) → is_return (slice_get bytes (length bytes - 1)) ≡ ends_in_return bytes
last_ends [] = refl
last_ends (b ∷ []) = refl
last_ends (b ∷ d ∷ bytes) =
    let i : length (b ∷ d ∷ bytes) - 1 ≡ suc (length (d ∷ bytes) - 1) = omega arith in rw i (last_ends (d ∷ bytes))

-- a text ends in a carriage return if its last byte is one
pub ends_byte : (text bytes : List ℕ) (r : Option ℕ) → IsUtf8 text → bytes ≡ text →
    r ≡ slice_get bytes (length bytes - 1) → is_return r ≡ ends_in_return (chars text)
ends_byte text bytes r utf8 same last =
    ap is_return last
    ∙ last_ends bytes
    ∙ ap ends_in_return (same ∙ sym (encodes-chars text utf8))
    ∙ characters_end (chars text)
