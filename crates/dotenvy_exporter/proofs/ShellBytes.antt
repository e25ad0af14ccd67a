-- What is written of a value for a shell, by its bytes: character by character, and run by run.
use Rattle.std.proofs.Common.{◌≡◌, ℕ, Bool, true, false, not, ◌&&◌, ◌||◌, List, [], ◌∷◌, ◌++◌, refl}
use Rattle.std.proofs.Common.{arith, length, append_assoc}
use Rattle.std.specs.Prelude.{◌==◌, encode_utf8, encode_utf8_all}
use Rattle.std.specs.List.{flat_map, list_all}
use Rattle.std.specs.Str.{chars, IsUtf8}
use Rattle.std.proofs.lemmas.List.{append-nil}
use Rattle.std.proofs.lemmas.Str.{encodes-append, encodes-chars, chars_past_char}
use Rattle.dotenvy_format.specs.Characters.{backslash, single_quote}
use Rattle.dotenvy_format.specs.inside.Slices.{IsSpan}
use Rattle.dotenvy_exporter.specs.Shell.{shell_character}
use Rattle.dotenvy_exporter.proofs.Tests.{and_left, and_right, not_is, or_left}

-- the bytes of a value's last characters
abbrev pub left_bytes : List ℕ → List ℕ
left_bytes cs = encode_utf8_all (flat_map shell_character cs)

-- what is left of a text is written as its first character, then what is left behind that one
pub left_next : (rest more : List ℕ) (c : ℕ) → IsUtf8 rest → rest ≡ encode_utf8 c ++ more →
    left_bytes (chars rest) ≡ encode_utf8_all (shell_character c) ++ left_bytes (chars more)
left_next rest more c utf8 spelled =
    rw (chars_past_char rest more c utf8 spelled) (encodes-append (shell_character c) (flat_map shell_character
    (chars more)))

-- characters between quotes that neither end them nor are a backslash are written as they are, before what is left
left_plain : (cs ds : List ℕ) → list_all (λ c. not (c == single_quote || c == backslash)) cs ≡ true →
    left_bytes (cs ++ ds) ≡ encode_utf8_all cs ++ left_bytes ds
left_plain [] ds h = refl
left_plain (c ∷ cs) ds h =
    let own = and_left (not (c == single_quote || c == backslash)) (list_all (λ c. not (c == single_quote || c ==
    backslash)) cs) h in
    let others = left_plain cs ds
    (and_right (not (c == single_quote || c == backslash)) (list_all (λ c. not (c == single_quote || c ==
    backslash)) cs) h) in
    let plain = or_left (c == single_quote) (c == backslash) (not_is _ own) in
    rw (plain, others, append_assoc)

-- the longest front of such characters is written as its own bytes, before what is left
pub left_run : (rest plain after : List ℕ) → IsUtf8 plain →
    IsSpan (λ c. not (c == single_quote || c == backslash)) (chars rest) (chars plain) (chars after) →
    left_bytes (chars rest) ≡ plain ++ left_bytes (chars after)
left_run rest plain after utf8 span =
    rw (span.spelled, left_plain (chars plain) (chars after) span.pass, encodes-chars plain utf8)

-- where no character is left, nothing is
pub left_none : (rest : List ℕ) → length rest ≡ 0 → left_bytes (chars rest) ≡ []
unfolding chars
left_none [] none = refl
left_none (b ∷ rest) none = absurd (omega arith)

-- what the push of a value is proved from
pub ruleset value_steps = (left_next, left_run, left_none, append_assoc, append-nil)
