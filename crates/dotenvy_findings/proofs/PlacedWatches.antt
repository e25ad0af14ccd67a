-- The places of a watch over text.
use Rattle.std.proofs.Common.{◌≡◌, ℕ, ◌<◌, ◌≤◌, Bool, true, false, List, [], ◌∷◌}
use Rattle.std.proofs.Common.{refl, sym, ap, ◌∙◌, arith, le-ltb, lt-ltb}
use Rattle.std.specs.Prelude.{◌==◌}
use Rattle.std.specs.Str.{IsUtf8, chars, encode_utf8_all}
use Rattle.std.specs.Char.{encode_utf8}
use Rattle.std.proofs.lemmas.Str.{chars_from_encodes}
use Rattle.std.proofs.lemmas.Bool.{and_parts}
use Rattle.std.proofs.lemmas.Bool.Decides.{nat_tests}
use lib.Utf8.{scalar, scalars}
use Rattle.dotenvy_format.specs.Characters.{line_feed}
use Rattle.dotenvy_findings.specs.declared.bytes.BadByte.{BadByte}
use Rattle.dotenvy_findings.specs.declared.bytes.CharacterPart.{CharacterPart}
use Rattle.dotenvy_findings.specs.declared.bytes.CharacterPart.TheVariants.{AllButOne, AllButTwo}
use Rattle.dotenvy_findings.specs.declared.bytes.CharacterPart.TheVariants.{First, Nothing}
use Rattle.dotenvy_findings.specs.declared.bytes.MarkPart.TheVariants as mark
use Rattle.dotenvy_findings.specs.declared.place.Place.{Place}
use Rattle.dotenvy_findings.specs.Bytes.{Watch, is_between, is_continuation, is_second, is_whole, part_after}
use Rattle.dotenvy_findings.specs.Bytes.{skips, stepped, watched}
use Rattle.dotenvy_findings.specs.Places.{next_place, one_more, place_after}
use Rattle.dotenvy_findings.proofs.CharacterBytes.{by_bytes}
use Rattle.dotenvy_findings.proofs.Watches.{between_is, parts_join}

-- a watch behind the start of a file, with this place and this much of a character
abbrev at : Place → CharacterPart → List BadByte → Watch
at place part found =
    record { cursor = record { place = place; part = part; mark = mark.Past }; found = found }

-- the next column
abbrev beside : Place → Place
beside place = record { line = place.line; column = one_more place.column }

-- a byte within a character
inside : (place : Place) (part next : CharacterPart) (found : List BadByte) (byte : ℕ) → part_after part byte ≡ next →
    is_whole next ≡ false → skips next ≡ false → 10 < byte →
    stepped (at place part found) byte ≡ at place next found
inside place part next found byte after whole goes_on above =
    let within : (byte == line_feed) ≡ false = grind (arith, nat_tests) in
    rw (after, whole, goes_on, within) refl

-- the last byte of a character
last : (place : Place) (part : CharacterPart) (found : List BadByte) (byte : ℕ) → part_after part byte ≡ Nothing →
    10 < byte → stepped (at place part found) byte ≡ at (beside place) Nothing found
last place part found byte after above =
    let within : (byte == line_feed) ≡ false = grind (arith, nat_tests) in
    rw (after, within) refl

-- the first byte of a character of several
first : (place : Place) (found : List BadByte) (byte : ℕ) → 128 ≤ byte →
    stepped (at place Nothing found) byte ≡ at place (First byte) found
first place found byte high =
    inside place Nothing (First byte) found byte (rw (le-ltb byte 128 high) refl) refl refl (omega arith)

-- a character of ASCII
one_byte : (place : Place) (found : List BadByte) (c : ℕ) (ends : Bool) → (c == line_feed) ≡ ends → c < 128 →
    stepped (at place Nothing found) c ≡ at (next_place place c) Nothing found
one_byte place found c true is low = rw (lt-ltb c 128 low, is) refl
one_byte place found c false is low = rw (lt-ltb c 128 low, is) refl

-- a character of two bytes
two_bytes : (place : Place) (found : List BadByte) (b d : ℕ) → 0xC2 ≤ b → b < 0xE0 → is_second b d ≡ true →
    watched (at place Nothing found) (b ∷ d ∷ []) ≡ at (beside place) Nothing found
two_bytes place found b d low high second =
    ap (λ w. stepped w d) (first place found b (omega arith))
    ∙ last place (First b) found d (rw (second, lt-ltb b 0xE0 high) refl) (grind (arith, nat_tests))

-- a character of three bytes
three_bytes : (place : Place) (found : List BadByte) (b d e : ℕ) → 0xE0 ≤ b → b < 0xF0 → is_second b d ≡ true →
    is_continuation e ≡ true →
    watched (at place Nothing found) (b ∷ d ∷ e ∷ []) ≡ at (beside place) Nothing found
three_bytes place found b d e low high second third =
    let next : part_after (First b) d ≡ AllButOne = rw (second, le-ltb b 0xE0 low, lt-ltb b 0xF0 high) refl in
    ap (λ w. stepped (stepped w d) e) (first place found b (omega arith))
    ∙ ap (λ w. stepped w e) (inside place (First b) AllButOne found d next refl refl (grind (arith, nat_tests)))
    ∙ last place AllButOne found e (rw third refl) (grind (arith, nat_tests))

-- a character of four bytes
four_bytes : (place : Place) (found : List BadByte) (b d e f : ℕ) → 0xF0 ≤ b → is_second b d ≡ true →
    is_continuation e ≡ true → is_continuation f ≡ true →
    watched (at place Nothing found) (b ∷ d ∷ e ∷ f ∷ []) ≡ at (beside place) Nothing found
four_bytes place found b d e f low second third fourth =
    let next : part_after (First b) d ≡ AllButTwo =
    rw (second, le-ltb b 0xE0 (omega arith), le-ltb b 0xF0 low) refl in
    ap (λ w. stepped (stepped (stepped w d) e) f) (first place found b (omega arith))
    ∙ ap (λ w. stepped (stepped w e) f)
    (inside place (First b) AllButTwo found d next refl refl (grind (arith, nat_tests)))
    ∙ ap (λ w. stepped w f)
    (inside place AllButTwo AllButOne found e (rw third refl) refl refl (grind (arith, nat_tests)))
    ∙ last place AllButOne found f (rw fourth refl) (grind (arith, nat_tests))

-- a character
one_character : (place : Place) (found : List BadByte) (c : ℕ) → scalar c ≡ true →
    watched (at place Nothing found) (encode_utf8 c) ≡ at (next_place place c) Nothing found
one_character place found c is =
    let end = at (next_place place c) Nothing found in
    let places : 128 ≤ c → at (beside place) Nothing found ≡ end = λ high.
    let within : (c == line_feed) ≡ false = grind (arith, nat_tests) in
    rw within refl in
    by_bytes (λ bytes. watched (at place Nothing found) bytes ≡ end) c is
    (one_byte place found c (c == line_feed) refl)
    (λ b d high low top second. two_bytes place found b d low top second ∙ places high)
    (λ b d e high low top second third. three_bytes place found b d e low top second third ∙ places high)
    (λ b d e f high low second third fourth. four_bytes place found b d e f low second third fourth ∙ places high)

-- characters
characters : (cs : List ℕ) (place : Place) (found : List BadByte) → scalars cs ≡ true →
    watched (at place Nothing found) (encode_utf8_all cs) ≡ at (place_after place cs) Nothing found
characters [] place found all = refl
characters (c ∷ cs) place found all =
    let both = and_parts (scalar c) (scalars cs) all in
    parts_join (at place Nothing found) (encode_utf8 c) (encode_utf8_all cs)
    ∙ ap (λ w. watched w (encode_utf8_all cs)) (one_character place found c both.0)
    ∙ characters cs (next_place place c) found both.1

-- text moves the place over its characters
pub text_moves : (watch : Watch) (text : List ℕ) → is_between watch.cursor ≡ true → IsUtf8 text →
    watched watch text
    ≡ record watch { cursor = record (watch.cursor) { place = place_after watch.cursor.place (chars text) } }
text_moves watch text free utf8 =
    let place = watch.cursor.place in
    let moved : Watch → Watch = λ w.
    record w { cursor = record (w.cursor) { place = place_after place (chars text) } } in
    let spelled : utf8.0 ≡ chars text = chars_from_encodes utf8.0 text utf8 utf8.1.1 in
    ap (λ w. watched w text) (between_is watch free)
    ∙ ap (watched (at place Nothing watch.found)) (sym utf8.1.1)
    ∙ characters utf8.0 place watch.found utf8.1.0
    ∙ ap (λ cs. at (place_after place cs) Nothing watch.found) spelled
    ∙ sym (ap moved (between_is watch free))
