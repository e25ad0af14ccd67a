-- The bytes of a character.
use Rattle.std.proofs.Common.{◌≡◌, ℕ, ◌+◌, ◌<◌, ◌≤◌, ◌/◌, ◌%◌, true, false, List, [], ◌∷◌}
use Rattle.std.proofs.Common.{sym, ◌∙◌, arith, subst, ◌⊎◌, inl, inr, ⊎_elim, le-ltb, lt-ltb}
use Rattle.std.specs.Char.{encode_utf8}
use Rattle.std.proofs.lemmas.Bool.{cases_lt, cond-true, cond-false}
use Rattle.std.proofs.lemmas.Bool.Decides.{nat_tests}
use lib.Dec.{ltb}
use lib.Utf8.{scalar, scalar_cases}
use Rattle.dotenvy_findings.specs.Bytes.{is_continuation, is_second}

-- a term of the type given
abbrev by : (A : Type 0) → A → A
by A a = a

-- what holds of the bytes of each length holds of a character
pub by_bytes : (P : List ℕ → Type 0) (c : ℕ) → scalar c ≡ true → (c < 128 → P (c ∷ [])) →
    ((b d : ℕ) → 128 ≤ c → 0xC2 ≤ b → b < 0xE0 → is_second b d ≡ true → P (b ∷ d ∷ [])) →
    ((b d e : ℕ) → 128 ≤ c → 0xE0 ≤ b → b < 0xF0 → is_second b d ≡ true → is_continuation e ≡ true →
    P (b ∷ d ∷ e ∷ [])) →
    ((b d e f : ℕ) → 128 ≤ c → 0xF0 ≤ b → is_second b d ≡ true → is_continuation e ≡ true →
    is_continuation f ≡ true → P (b ∷ d ∷ e ∷ f ∷ [])) → P (encode_utf8 c)
unfolding encode_utf8
by_bytes P c is one_byte two_bytes three_bytes four_bytes =
    let range = scalar_cases c is in
    ⊎_elim
    (λ one. subst P (sym (cond-true _ _ _ (by ((c < 128) → ltb c 128 ≡ true) (lt-ltb c 128) one))) (one_byte one))
    (λ more.
    let not_one : ltb c 128 ≡ false = le-ltb c 128 more in
    ⊎_elim
    (λ two.
    let is_two : encode_utf8 c ≡ (192 + c / 64) ∷ (128 + c % 64) ∷ [] =
    cond-false _ _ _ not_one ∙ cond-true _ _ _ (by (ltb c 2048 ≡ true) (lt-ltb c 2048 two)) in
    subst P (sym is_two)
    (two_bytes (192 + c / 64) (128 + c % 64) more (omega arith) (omega arith) (grind (arith, nat_tests))))
    (λ wide.
    let not_two : ltb c 2048 ≡ false = le-ltb c 2048 wide in
    ⊎_elim
    (λ three.
    let is_three : encode_utf8 c ≡ (224 + c / 4096) ∷ (128 + (c / 64) % 64) ∷ (128 + c % 64) ∷ [] =
    cond-false _ _ _ not_one ∙ cond-false _ _ _ not_two
    ∙ cond-true _ _ _ (by (ltb c 65536 ≡ true) (lt-ltb c 65536 three)) in
    let apart : (c < 55296) ⊎ (57344 ≤ c) = ⊎_elim (λ low. inl low) (λ high. inr high.0) range in
    subst P (sym is_three)
    (three_bytes (224 + c / 4096) (128 + (c / 64) % 64) (128 + c % 64) more (omega arith) (omega arith)
    (grind (arith, nat_tests)) (grind (arith, nat_tests))))
    (λ four.
    let is_four : encode_utf8 c
    ≡ (240 + c / 262144) ∷ (128 + (c / 4096) % 64) ∷ (128 + (c / 64) % 64) ∷ (128 + c % 64) ∷ [] =
    cond-false _ _ _ not_one ∙ cond-false _ _ _ not_two
    ∙ cond-false _ _ _ (by (ltb c 65536 ≡ false) (le-ltb c 65536 four)) in
    let top : c < 1114112 = ⊎_elim (λ low. omega arith) (λ high. high.1) range in
    subst P (sym is_four)
    (four_bytes (240 + c / 262144) (128 + (c / 4096) % 64) (128 + (c / 64) % 64) (128 + c % 64) more (omega arith)
    (grind (arith, nat_tests)) (grind (arith, nat_tests)) (grind (arith, nat_tests))))
    (cases_lt c 65536))
    (cases_lt c 2048))
    (cases_lt c 128)
