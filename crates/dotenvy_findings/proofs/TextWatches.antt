-- Watches over text.
use Rattle.std.proofs.Common.{◌≡◌, ℕ, ◌<◌, ◌≤◌, Bool, true, false, List, [], ◌∷◌}
use Rattle.std.proofs.Common.{refl, sym, ap, ◌∙◌, arith, subst, le-ltb, lt-ltb}
use Rattle.std.specs.Prelude.{◌==◌}
use Rattle.std.specs.Str.{IsUtf8}
use Rattle.std.specs.Char.{encode_utf8}
use Rattle.std.specs.Str.{encode_utf8_all}
use Rattle.std.proofs.lemmas.Bool.{and_parts}
use Rattle.std.proofs.lemmas.Bool.Decides.{nat_tests}
use lib.Utf8.{scalar, scalars}
use Rattle.dotenvy_format.specs.Characters.{line_feed}
use Rattle.dotenvy_findings.specs.declared.bytes.CharacterPart.{CharacterPart}
use Rattle.dotenvy_findings.specs.declared.bytes.CharacterPart.TheVariants.{AllButOne, AllButTwo}
use Rattle.dotenvy_findings.specs.declared.bytes.CharacterPart.TheVariants.{First, Nothing}
use Rattle.dotenvy_findings.specs.declared.bytes.MarkPart.{MarkPart}
use Rattle.dotenvy_findings.specs.declared.place.Place.{Place}
use Rattle.dotenvy_findings.specs.Bytes.{Watch, fresh, is_continuation, is_second, part_after, skips}
use Rattle.dotenvy_findings.specs.Bytes.{stepped, watched, with_end}
use Rattle.dotenvy_findings.proofs.CharacterBytes.{by_bytes}
use Rattle.dotenvy_findings.proofs.Watches.{parts_join}

-- this much of a character was read, and nothing was found
abbrev found_none : Place → CharacterPart → MarkPart → Watch
found_none place part mark =
    record { cursor = record { place = place; part = part; mark = mark }; found = [] }

-- this much of a character was read, and nothing was found
record IsAt (part : CharacterPart) (watch : Watch) : Type 0 where
  pub is : watch.cursor.part ≡ part
  pub none : watch.found ≡ []

-- such a watch, by its parts
by_parts : (part : CharacterPart) (watch : Watch) → IsAt part watch →
    watch ≡ found_none watch.cursor.place part watch.cursor.mark
by_parts part watch at =
    let put : CharacterPart → Watch = λ p. record watch { cursor = record (watch.cursor) { part = p } } in
    ap put at.is ∙ ap (λ found. record (put part) { found = found }) at.none

-- one more byte of a line
moves_on : (place : Place) (part next : CharacterPart) (mark : MarkPart) (byte : ℕ) →
    part_after part byte ≡ next → skips next ≡ false → (byte == line_feed) ≡ false →
    IsAt next (stepped (found_none place part mark) byte)
moves_on place part next mark byte after goes_on inside =
    record { is = rw (after, inside) refl; none = rw (after, goes_on) refl }

-- one more byte of a line
goes_to : (part next : CharacterPart) (watch : Watch) (byte : ℕ) → IsAt part watch → part_after part byte ≡ next →
    skips next ≡ false → 10 < byte → IsAt next (stepped watch byte)
goes_to part next watch byte at after goes_on above =
    let inside : (byte == line_feed) ≡ false = grind (arith, nat_tests) in
    subst (λ w. IsAt next (stepped w byte)) (sym (by_parts part watch at))
    (moves_on watch.cursor.place part next watch.cursor.mark byte after goes_on inside)

-- a character of ASCII, also a line feed
ascii_moves : (place : Place) (mark : MarkPart) (byte : ℕ) (ends : Bool) → (byte == line_feed) ≡ ends → byte < 128 →
    IsAt Nothing (stepped (found_none place Nothing mark) byte)
ascii_moves place mark byte true is low =
    record { is = rw is refl; none = rw (lt-ltb byte 128 low) refl }
ascii_moves place mark byte false is low =
    record { is = rw (is, lt-ltb byte 128 low) refl; none = rw (lt-ltb byte 128 low) refl }

-- a character of ASCII
one_byte : (watch : Watch) (byte : ℕ) → byte < 128 → IsAt Nothing watch → IsAt Nothing (stepped watch byte)
one_byte watch byte low at =
    subst (λ w. IsAt Nothing (stepped w byte)) (sym (by_parts Nothing watch at))
    (ascii_moves watch.cursor.place watch.cursor.mark byte (byte == line_feed) refl low)

-- the first byte of a character of several
begins : (watch : Watch) (byte : ℕ) → 128 ≤ byte → IsAt Nothing watch → IsAt (First byte) (stepped watch byte)
begins watch byte high at =
    goes_to Nothing (First byte) watch byte at (rw (le-ltb byte 128 high) refl) refl (omega arith)

-- a character of two bytes
two_bytes : (watch : Watch) (b d : ℕ) → 0xC2 ≤ b → b < 0xE0 → is_second b d ≡ true → IsAt Nothing watch →
    IsAt Nothing (watched watch (b ∷ d ∷ []))
two_bytes watch b d low high second at =
    let above : 10 < d = grind (arith, nat_tests) in
    goes_to (First b) Nothing (stepped watch b) d (begins watch b (omega arith) at)
    (rw (second, lt-ltb b 0xE0 high) refl) refl above

-- a character of three bytes
three_bytes : (watch : Watch) (b d e : ℕ) → 0xE0 ≤ b → b < 0xF0 → is_second b d ≡ true →
    is_continuation e ≡ true → IsAt Nothing watch → IsAt Nothing (watched watch (b ∷ d ∷ e ∷ []))
three_bytes watch b d e low high second third at =
    let above : (10 < d) × (10 < e) = (grind (arith, nat_tests), grind (arith, nat_tests)) in
    let two : IsAt AllButOne (stepped (stepped watch b) d) =
    goes_to (First b) AllButOne (stepped watch b) d (begins watch b (omega arith) at)
    (rw (second, le-ltb b 0xE0 low, lt-ltb b 0xF0 high) refl) refl above.0 in
    goes_to AllButOne Nothing (stepped (stepped watch b) d) e two (rw third refl) refl above.1

-- a character of four bytes
four_bytes : (watch : Watch) (b d e f : ℕ) → 0xF0 ≤ b → is_second b d ≡ true → is_continuation e ≡ true →
    is_continuation f ≡ true → IsAt Nothing watch → IsAt Nothing (watched watch (b ∷ d ∷ e ∷ f ∷ []))
four_bytes watch b d e f low second third fourth at =
    let above : (10 < d) × (10 < e) × (10 < f) =
    (grind (arith, nat_tests), grind (arith, nat_tests), grind (arith, nat_tests)) in
    let two : IsAt AllButTwo (stepped (stepped watch b) d) =
    goes_to (First b) AllButTwo (stepped watch b) d (begins watch b (omega arith) at)
    (rw (second, le-ltb b 0xE0 (omega arith), le-ltb b 0xF0 low) refl) refl above.0 in
    let three : IsAt AllButOne (stepped (stepped (stepped watch b) d) e) =
    goes_to AllButTwo AllButOne (stepped (stepped watch b) d) e two (rw third refl) refl above.1 in
    goes_to AllButOne Nothing (stepped (stepped (stepped watch b) d) e) f three (rw fourth refl) refl above.2

-- a character
one_character : (watch : Watch) (c : ℕ) → scalar c ≡ true → IsAt Nothing watch →
    IsAt Nothing (watched watch (encode_utf8 c))
one_character watch c is at =
    by_bytes (λ bytes. IsAt Nothing (watched watch bytes)) c is (λ low. one_byte watch c low at)
    (λ b d high low top second. two_bytes watch b d low top second at)
    (λ b d e high low top second third. three_bytes watch b d e low top second third at)
    (λ b d e f high low second third fourth. four_bytes watch b d e f low second third fourth at)

-- characters
characters : (cs : List ℕ) (watch : Watch) → scalars cs ≡ true → IsAt Nothing watch →
    IsAt Nothing (watched watch (encode_utf8_all cs))
characters [] watch all at = at
characters (c ∷ cs) watch all at =
    let both = and_parts (scalar c) (scalars cs) all in
    subst (IsAt Nothing) (sym (parts_join watch (encode_utf8 c) (encode_utf8_all cs)))
    (characters cs (watched watch (encode_utf8 c)) both.1 (one_character watch c both.0 at))

-- in a file that is UTF-8 no byte is found
pub text_has_none : (file : List ℕ) → IsUtf8 file → (with_end (watched fresh file)).found ≡ []
text_has_none file utf8 =
    let start : IsAt Nothing fresh = record { is = refl; none = refl } in
    let end : IsAt Nothing (watched fresh file) =
    subst (λ f. IsAt Nothing (watched fresh f)) utf8.1.1 (characters utf8.0 fresh utf8.1.0 start) in
    ap (λ w. (with_end w).found) (by_parts Nothing (watched fresh file) end)
