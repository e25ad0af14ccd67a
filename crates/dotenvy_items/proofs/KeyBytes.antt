-- Keys: their bytes are their characters, and each key is a name.
use Rattle.std.proofs.Common.{◌≡◌, ◌<◌, ℕ, true, false, [], ◌∷◌, List, refl, sym, ◌∙◌, arith}
use Rattle.std.specs.Prelude.{◌==◌, encode_utf8_all}
use Rattle.std.specs.List.{list_all, list_any}
use Rattle.std.specs.Str.{chars, IsUtf8}
use Rattle.std.proofs.lemmas.Bool.{and_parts}
use Rattle.std.proofs.lemmas.Bool.Decides.{nat_tests}
use Rattle.std.proofs.lemmas.Str.{encodes-chars, encode_ascii}
use Rattle.dotenvy_format.specs.Characters.{continues_key, equals_sign}
use Rattle.dotenvy_format.specs.Keys.{is_key}
use Rattle.dotenvy_base.specs.Environment.{name_ok}
use Rattle.dotenvy_format.proofs.KeyCharacters.{key_continues}

-- a character of a key is an ASCII one
continues-ascii : (c : ℕ) → continues_key c ≡ true → c < 128
continues-ascii c h = grind (arith, nat_tests, h)

-- a character of a key is not one that continues no key
continues-other : (b c : ℕ) → continues_key b ≡ false → continues_key c ≡ true → (c == b) ≡ false
continues-other b c other h = grind (arith, nat_tests, other, h)

-- characters of keys are their own bytes
encodes-continuing : (cs : List ℕ) → list_all continues_key cs ≡ true → encode_utf8_all cs ≡ cs
encodes-continuing [] h = refl
encodes-continuing (c ∷ cs) h =
    let parts = and_parts (continues_key c) (list_all continues_key cs) h in
    rw (encode_ascii c (continues-ascii c parts.0), encodes-continuing cs parts.1)

-- what continues no key stands in none
none-continuing : (b : ℕ) → continues_key b ≡ false → (cs : List ℕ) → list_all continues_key cs ≡ true →
    list_any (λ c. c == b) cs ≡ false
none-continuing b other [] h = refl
none-continuing b other (c ∷ cs) h =
    let parts = and_parts (continues_key c) (list_all continues_key cs) h in
    rw (continues-other b c other parts.0) (none-continuing b other cs parts.1)

-- a key is its own bytes
pub encodes-key : (cs : List ℕ) → is_key cs ≡ true → encode_utf8_all cs ≡ cs
encodes-key cs h = encodes-continuing cs (key_continues cs h)

-- a key's bytes are its characters
pub chars-key : (bs : List ℕ) → IsUtf8 bs → is_key (chars bs) ≡ true → chars bs ≡ bs
chars-key bs utf8 h = sym (encodes-key (chars bs) h) ∙ encodes-chars bs utf8

-- the characters of a key, taken as bytes, are a name: not empty, without `=` and NUL
name_from_key : (cs : List ℕ) → is_key cs ≡ true → name_ok cs ≡ true
name_from_key [] h = h
name_from_key (c ∷ cs) h =
    let continues = key_continues (c ∷ cs) h in
    rw (none-continuing equals_sign refl (c ∷ cs) continues, none-continuing 0 refl (c ∷ cs) continues)

-- a key is a name
pub name_ok-key : (bs : List ℕ) → IsUtf8 bs → is_key (chars bs) ≡ true → name_ok bs ≡ true
name_ok-key bs utf8 h = name_from_key bs (rw (chars-key bs utf8 h) at h)
