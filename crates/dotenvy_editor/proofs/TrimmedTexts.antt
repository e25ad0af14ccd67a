-- Texts without white space at their ends, and the bytes of their fronts.
use Rattle.std.proofs.Common.{◌≡◌, ◌≢◌, ℕ, ◌+◌, true, false, not, List, [], ◌∷◌, ◌++◌, length}
use Rattle.std.proofs.Common.{refl, sym, ap, ◌∙◌, arith, length-append}
use Rattle.std.specs.Prelude.{◌≤◌, ◌-◌, ◌&&◌, ◌==◌, cond, take}
use Rattle.std.specs.List.{list_all}
use Rattle.std.specs.Char.{is_whitespace}
use Rattle.std.specs.Str.{chars, encode_utf8_all, IsCharBoundary, IsUtf8, drop_trailing_whitespace, trim_end}
use Rattle.std.proofs.lemmas.Bool.Decides.{nat_tests}
use Rattle.std.proofs.lemmas.Str.{IsCharBoundary-at_seam, encodes-chars, encodes-append}
use Rattle.std.proofs.Math.Seq.{take-append_seam}
use Rattle.dotenvy_format.proofs.statements.StatementParts.{chars-trim_end}
use Rattle.dotenvy.specs.Characters.{byte_len}
use Rattle.dotenvy.specs.Statement.{is_white_space}

-- a text has the bytes of its front and those that are left
pub front_bytes : (text left front : List ℕ) → IsUtf8 text → IsUtf8 left → chars text ≡ front ++ chars left →
    text ≡ encode_utf8_all front ++ left
front_bytes text left front u v h =
    sym (encodes-chars text u) ∙ rw (h, encodes-append front (chars left), encodes-chars left v) refl

-- a text has as many bytes as its front and what is left have together
pub front_and_left : (text left front : List ℕ) → IsUtf8 text → IsUtf8 left → chars text ≡ front ++ chars left →
    length text ≡ byte_len front + length left
front_and_left text left front u v h =
    rw (ap length (front_bytes text left front u v h)) (length-append (encode_utf8_all front) left)

-- how a text is cut before what is left of it, where its white space at the end is left out
pub record IsCutBefore (end left front : List ℕ) : Type 0 where
  pub within : length left ≤ length end
  pub boundary : IsCharBoundary end (length end - length left)
  pub taken : take (length end - length left) end ≡ encode_utf8_all front

-- a text without white space at its end is cut before what is left
pub cut_before : (text end left front : List ℕ) → IsUtf8 text → IsUtf8 end → IsUtf8 left → end ≡ trim_end text →
    drop_trailing_whitespace (chars text) ≡ front ++ chars left → IsCutBefore end left front
cut_before text end left front u v w ends is =
    let bytes = front_bytes end left front v w (chars-trim_end text end u ends ∙ is) in
    let total = ap length bytes ∙ length-append (encode_utf8_all front) left in
    let place : length end - length left ≡ length (encode_utf8_all front) = omega (arith, total) in record {
      within = omega (arith, total);
      boundary = rw place (IsCharBoundary-at_seam end (encode_utf8_all front) left bytes w);
      taken = rw (place, bytes) (take-append_seam (encode_utf8_all front) left);
    }

-- white space has nothing without its trailing white space
white_dropped : (ws : List ℕ) → is_white_space ws ≡ true → drop_trailing_whitespace ws ≡ []
white_dropped [] h = refl
white_dropped (c ∷ ws) h = grind (arith, nat_tests, white_dropped ws)

-- a row of characters that aren't white space, before white space, is left without it
word_left : (word ws : List ℕ) → list_all (λ c. not (is_whitespace c)) word ≡ true → is_white_space ws ≡ true →
    drop_trailing_whitespace (word ++ ws) ≡ word
word_left [] ws h white = white_dropped ws white
word_left (c ∷ word) ws h white = grind (arith, nat_tests, word_left word ws)

-- what comes before something that is left is left with it
front_left : (front back left : List ℕ) → drop_trailing_whitespace back ≡ left → left ≢ [] →
    drop_trailing_whitespace (front ++ back) ≡ front ++ left
front_left [] back left h some = h
front_left (c ∷ front) back [] h some = absurd (some refl)
front_left (c ∷ front) back (d ∷ left) h some =
    rw (front_left front back (d ∷ left) h some) (grind (arith, nat_tests, length-append front (d ∷ left)))

-- a text that ends in a word and white space is trimmed to the end of the word
pub trimmed_to : (front word ws : List ℕ) → word ≢ [] → list_all (λ c. not (is_whitespace c)) word ≡ true →
    is_white_space ws ≡ true → drop_trailing_whitespace (front ++ (word ++ ws)) ≡ front ++ word
trimmed_to front word ws some h white = front_left front (word ++ ws) word (word_left word ws h white) some

-- a text is what is left without its trailing white space, and that
pub trimmed_front : (text : List ℕ) → (ws : List ℕ) × (text ≡ drop_trailing_whitespace text ++ ws)
trimmed_front [] = ([], refl)
trimmed_front (c ∷ text) =
    let (ws, is) = trimmed_front text in
    (elim (is_whitespace c && length (drop_trailing_whitespace text) == 0) as (λ b.
    (ws : List ℕ) × (c ∷ text ≡ cond b [] (c ∷ drop_trailing_whitespace text) ++ ws)) [
      | true ↦ (c ∷ text, refl)
      | false ↦ (ws, ap (λ cs. c ∷ cs) is)
    ])
