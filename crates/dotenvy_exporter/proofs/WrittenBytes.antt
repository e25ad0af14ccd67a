-- What appending calls leave, and the bytes of a line.
use Rattle.std.proofs.Common.{true, false, ap, ◌∙◌, ◌≡◌, ℕ, ◌+◌, List, [], ◌∷◌, ◌++◌, Result, Ok}
use Rattle.std.proofs.Common.{Err, OnOk, is_ok, refl, arith, length, length-append, append_assoc}
use lib.Utf8.{encode}
use Rattle.std.specs.Prelude.{codes, if◌then◌else◌, encode_utf8_all}
use Rattle.std.specs.Str.{chars, IsUtf8}
use Rattle.std.specs.List.{flat_map}
use Rattle.std.proofs.lemmas.Str.{encodes-chars, encodes-append}
use Rattle.dotenvy_format.specs.Characters.{carriage_return, equals_sign}
use Rattle.dotenvy_format.specs.Characters.{line_feed, single_quote}
use Rattle.dotenvy_exporter.specs.Docker.{docker_line, ends_in_return, closing}
use Rattle.std.proofs.lemmas.Grind.{flat_map-append}
use Rattle.dotenvy_exporter.specs.Exec.{set_line}
use Rattle.dotenvy_exporter.specs.Shell.{shell_line, shell_character}

-- what is one of two texts, by the result, is the first after Ok, in another spelling
pub ok_text : {T E : Type 0} (r : Result T E) (new first second wanted : List ℕ) →
    new ≡ (if is_ok r then first else second) → first ≡ wanted → OnOk r (new ≡ wanted)
ok_text (Ok x) new first second wanted h e = rw h e
ok_text (Err e) new first second wanted h e' = tt

-- the bytes of what closes a value
pub closing_encodes : (value : List ℕ) → encode_utf8_all (closing value) ≡ closing value
unfolding encode
closing_encodes value =
    elim (ends_in_return value) as (λ b. encode_utf8_all (if b then carriage_return ∷ [] else []) ≡ (if b then
    carriage_return ∷ [] else []))
    [ true ↦ refl | false ↦ refl ]

pub docker_bytes : (name value : List ℕ) → IsUtf8 name → IsUtf8 value →
    encode_utf8_all (docker_line (chars name) (chars value))
    ≡ name ++ equals_sign ∷ (value ++ (closing (chars value) ++ line_feed ∷ []))
unfolding encode
docker_bytes name value n v =
    encodes-append (chars name) (equals_sign ∷ (chars value ++ (closing (chars value) ++ line_feed ∷ [])))
    ∙ rw (encodes-chars name n) (ap (λ bs. name ++ equals_sign ∷ bs)
    (encodes-append (chars value) (closing (chars value) ++ line_feed ∷ [])
    ∙ rw (encodes-chars value v) (ap (λ bs. value ++ bs)
    (encodes-append (closing (chars value)) (line_feed ∷ []) ∙ rw (closing_encodes (chars value)) refl))))

pub line_len : (name value : List ℕ) → IsUtf8 name → IsUtf8 value →
    length (encode_utf8_all (chars name ++ equals_sign ∷ (chars value ++ closing (chars value))))
    ≡ length name + length value + length (closing (chars value)) + 1
unfolding encode
line_len name value n v =
    let first = ap length (encodes-append (chars name) (equals_sign ∷ (chars value ++ closing (chars value)))) in
    let second = ap length (encodes-append (chars value) (closing (chars value))) in
    let third = ap length (closing_encodes (chars value)) in
    let one = ap length (encodes-chars name n) in
    let two = ap length (encodes-chars value v) in
    omega (arith, simp length-append at first, simp length-append at second, third, one, two)

-- the bytes of a shell's line around the written value
pub shell_bytes : (name value : List ℕ) → IsUtf8 name →
    encode_utf8_all (shell_line (chars name) (chars value))
    ≡ 101 ∷ 120 ∷ 112 ∷ 111 ∷ 114 ∷ 116 ∷ 32 ∷ (name ++ equals_sign ∷ single_quote
    ∷ (encode_utf8_all (flat_map shell_character (chars value)) ++ single_quote ∷ line_feed ∷ []))
unfolding encode
shell_bytes name value n =
    rw (
      encodes-append (chars name),
      encodes-append (flat_map shell_character (chars value)),
      encodes-chars name
          n,
    ) refl

-- the bytes of a line that puts a word, around the written name and value
pub set_bytes : (name value : List ℕ) →
    encode_utf8_all (set_line (chars name) (chars value))
    ≡ codes "set -- '" ++ (encode_utf8_all (flat_map shell_character (chars name)) ++ equals_sign
    ∷ (encode_utf8_all (flat_map shell_character (chars value)) ++ codes "' \"$@\"\n"))
unfolding encode
set_bytes name value =
    rw (
      flat_map-append shell_character (chars name) (equals_sign ∷ chars value),
      append_assoc (flat_map shell_character (chars name)) (equals_sign ∷ flat_map shell_character (chars value))
          (codes "' \"$@\"\n"),
      encodes-append (flat_map shell_character (chars name)),
      encodes-append (flat_map shell_character (chars value)),
    ) refl

-- the bytes of a text's characters are the text
pub text_bytes : (text : List ℕ) → IsUtf8 text → encode_utf8_all (chars text) ≡ text
text_bytes text utf8 = encodes-chars text utf8
