-- Which bytes a run of each class passes over.
use Rattle.std.proofs.Common.{◌≡◌, ℕ, ◌<◌, ◌≤◌, Bool, true, false, get_or, List, ◌++◌, inl, inr, arith}
use Rattle.std.specs.List.{list_all, prefix_len}
use Rattle.std.proofs.Math.Utf8.{encode}
use Rattle.std.proofs.lemmas.Bool.{cases_lt}
use Rattle.std.proofs.lemmas.Bool.Decides.{nat_tests}
use Rattle.std.proofs.lemmas.Str.{encode_ascii}
use Rattle.dotenvy_format.specs.declared.text.Class.{Class}
use Rattle.dotenvy_format.specs.declared.text.Class.TheVariants.{Token}
use Rattle.dotenvy_format.specs.inside.Slices.{ends_by_bytes, has_character, in_run}
use Rattle.dotenvy_format.proofs.bytes.NameCharacters.{ascii_name}

-- the first byte of a character
abbrev pub lead : ℕ → ℕ
lead c = get_or (encode c) 0 0

-- the first byte of a wide character is at least 192
lead_wide : (c : ℕ) → 128 ≤ c → 192 ≤ lead c
unfolding encode
lead_wide c h = grind (arith, nat_tests)

-- an ASCII character that passes as a byte of a class is in it
narrow : (class : Class) (c : ℕ) → c < 128 → in_run class c ≡ true → has_character class c ≡ true
narrow class c small h = grind (arith, nat_tests, ascii_name)

-- a wide character whose first byte passes as a byte of a token is in that class
token_wide : (c : ℕ) → 128 ≤ c → in_run Token (lead c) ≡ true → has_character Token c ≡ true
unfolding encode
token_wide c large h = grind (arith, nat_tests)

-- a wide character whose first byte passes as a byte of a class is in it
wide : (class : Class) (c : ℕ) → 128 ≤ c → in_run class (lead c) ≡ true → has_character class c ≡ true
wide Token c large h = token_wide c large h
wide class c large h = let first = lead_wide c large in grind (arith, nat_tests)

-- where the bytes of a class tell its end, an ASCII character that fails as a byte isn't in it, nor is a wide one
narrow_fails : (class : Class) (c : ℕ) → ends_by_bytes class ≡ true → c < 128 → in_run class c ≡ false
    → has_character class c ≡ false
narrow_fails class c by small h = grind (arith, nat_tests)

wide_fails : (class : Class) (c : ℕ) → ends_by_bytes class ≡ true → 128 ≤ c → in_run class (lead c) ≡ false
    → has_character class c ≡ false
wide_fails class c by large h = let first = lead_wide c large in grind (arith, nat_tests)

-- a character whose first byte passes as a byte of a class is in it
pub character_passes : (class : Class) (c : ℕ) → in_run class (lead c) ≡ true → has_character class c ≡ true
character_passes class c h =
    elim (cases_lt c 128) [
      | inl small ↦ narrow class c small (rw (encode_ascii c small) at h)
      | inr large ↦ wide class c large h
    ]

-- where the first byte of a wide character passes as a byte of a class, so do its later bytes
later : (class : Class) (c b : ℕ) → 128 ≤ c → in_run class (lead c) ≡ true → 128 ≤ b → b < 192
    → in_run class b ≡ true
later class c b large h low below = let first = lead_wide c large in grind (arith, nat_tests)

-- all bytes of a character pass where its first does, and the bytes from 128 to 191 if it is wide
encoded_pass : (byte : ℕ → Bool) (c : ℕ) → (128 ≤ c → (b : ℕ) → 128 ≤ b → b < 192 → byte b ≡ true)
    → byte (lead c) ≡ true → list_all byte (encode c) ≡ true
unfolding encode
encoded_pass byte c more h = grind (arith, nat_tests)

-- where the first byte of a character passes as a byte of a class, all its bytes do
pub bytes_pass : (class : Class) (c : ℕ) → in_run class (lead c) ≡ true → list_all (in_run class) (encode c) ≡ true
bytes_pass class c h = encoded_pass (in_run class) c (λ large b low below. later class c b large h low below) h

-- a character that doesn't begin with a byte of such a class isn't in it
pub first_fails : (class : Class) (c : ℕ) → ends_by_bytes class ≡ true → in_run class (lead c) ≡ false
    → has_character class c ≡ false
first_fails class c by h =
    elim (cases_lt c 128) [
      | inl small ↦ narrow_fails class c by small (rw (encode_ascii c small) at h)
      | inr large ↦ wide_fails class c by large h
    ]

-- where the first byte of a character fails, no run begins with it
pub none_begins : (byte : ℕ → Bool) (c : ℕ) (bytes : List ℕ) → byte (lead c) ≡ false
    → prefix_len byte (encode c ++ bytes) ≡ 0
unfolding encode
none_begins byte c bytes h = grind (arith, nat_tests)
