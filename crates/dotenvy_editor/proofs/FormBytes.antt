-- The bytes of a value's forms.
use Rattle.std.proofs.Common.{◌≡◌, ℕ, Bool, List, [], ◌++◌, refl}
use Rattle.std.proofs.Common.{Result, Ok, Err, OnOk, is_ok, append_assoc}
use Rattle.std.specs.Prelude.{encode_utf8, encode_utf8_all, if◌then◌else◌}
use Rattle.std.specs.List.{flat_map}
use Rattle.std.specs.Str.{chars, IsUtf8}
use Rattle.std.proofs.lemmas.List.{append-nil}
use Rattle.std.proofs.lemmas.Str.{chars-nil, chars_past_char, encodes-append}
use Rattle.dotenvy_editor.specs.inside.Tried.{double_character}

-- the bytes that are written of a value's last characters between double quotes
abbrev pub left_bytes : Bool → List ℕ → List ℕ
left_bytes is_one_line cs = encode_utf8_all (flat_map (double_character is_one_line) cs)

-- what is left of a text is written as its first character, then what is left after that one
pub left_next : (is_one_line : Bool) (rest more : List ℕ) (c : ℕ) → IsUtf8 rest → rest ≡ encode_utf8 c ++ more →
    left_bytes is_one_line (chars rest)
    ≡ encode_utf8_all (double_character is_one_line c) ++ left_bytes is_one_line (chars more)
left_next is_one_line rest more c utf8 spelled =
    rw (chars_past_char rest more c utf8 spelled) (encodes-append (double_character is_one_line c)
    (flat_map (double_character is_one_line) (chars more)))

-- where no byte is left, nothing is
pub left_none : (is_one_line : Bool) (rest : List ℕ) → rest ≡ [] → left_bytes is_one_line (chars rest) ≡ []
left_none is_one_line rest none = rw (none, chars-nil) refl

-- what the push of a value between double quotes is proved from
pub ruleset value_steps = (left_next, left_none, append_assoc, append-nil)

-- what is one of two texts, by the result, is the first after Ok, in another spelling
pub ok_text : {T E : Type 0} (r : Result T E) (new first second wanted : List ℕ) →
    new ≡ (if is_ok r then first else second) → first ≡ wanted → OnOk r (new ≡ wanted)
ok_text (Ok x) new first second wanted h e = rw h e
ok_text (Err e) new first second wanted h e' = tt
