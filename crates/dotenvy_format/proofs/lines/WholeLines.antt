-- Lines that are logical lines by themselves: the walk over the characters ends where the search in the bytes does.
use Rattle.std.proofs.Common.{◌≡◌, ℕ, ◌≤◌, ◌-◌, true, false, not, List, [], ◌∷◌, ◌++◌, length, take, refl, sym}
use Rattle.std.proofs.Common.{◌∙◌, ap, append_assoc, arith, Some, None, inl, inr, length-append, lt-ltb}
use Rattle.std.specs.Prelude.{◌==◌, ◌&&◌, nat_le, nat_lt, encode_utf8_all}
use Rattle.std.specs.Char.{is_whitespace}
use Rattle.std.specs.Str.{chars, skip_leading_whitespace, IsAscii, IsUtf8}
use Rattle.std.proofs.Math.Utf8.{encode}
use Rattle.std.proofs.Math.Seq.{take-append_seam}
use Rattle.std.proofs.lemmas.Bool.{and_parts, cases_Bool, cases_lt, eqb-true}
use Rattle.std.proofs.lemmas.Bool.Decides.{nat_tests}
use Rattle.std.proofs.lemmas.List.Folds.{list_all-append}
use Rattle.std.proofs.lemmas.Str.{chars-append, chars-IsAscii, encode_ascii, encodes-chars, IsAscii-append}
use Rattle.std.proofs.lemmas.Str.{IsUtf8-append, IsUtf8-from_ascii}
use Rattle.std.proofs.lemmas.Str.Ascii.{IsAscii-cons, IsAscii-nil}
use Rattle.dotenvy_format.specs.declared.walk.LineMode.TheVariants.{Outside}
use Rattle.dotenvy_format.specs.declared.walk.Blanks.TheVariants.{Unknown}
use Rattle.dotenvy_format.specs.Characters.{backslash, begins_with, hash, is_quote, is_space_or_tab, line_feed}
use Rattle.dotenvy_format.specs.LogicalLine.{without_carriage_return}
use Rattle.dotenvy_format.specs.PhysicalLines.{no_line_feed}
use Rattle.dotenvy_format.specs.inside.Slices.{BeginsLine}
use Rattle.dotenvy_format.specs.inside.Walk.{ended, walk}
use Rattle.dotenvy_format.specs.inside.LineEnd.{BeginsWhole, Place, ends_line, from_line_end, line_start, place_leads}
use Rattle.dotenvy_format.specs.inside.LineEnd.{unquoted}
use Rattle.dotenvy_format.proofs.lines.CommentLines.{ascii_bytes, none_among}
use Rattle.dotenvy_format.proofs.lines.LineTexts.{walk-more}
use Rattle.dotenvy_format.proofs.lines.SearchPlaces.{after_both, found, led_none, no_feed, on_some, place_after}
use Rattle.dotenvy_format.proofs.lines.PlaceModes.{are_wide, encoded_some, encoded_wide, ended_by, kept_there}
use Rattle.dotenvy_format.proofs.lines.PlaceModes.{over_outside, text_led}

-- white space outside quotes leaves it unknown what is before
white_ascii : (c : ℕ) → is_whitespace c ≡ true → nat_lt c 128 ≡ true → (c == line_feed) ≡ false
    → place_leads (unquoted Unknown) c ≡ Some (unquoted Unknown)
white_ascii c white small t =
    let u : (c == hash) ≡ false = grind (arith, nat_tests) in
    let v : (c == backslash) ≡ false = grind (arith, nat_tests) in
    let w : is_quote c ≡ false = grind (arith, nat_tests) in
    let hidden : (nat_le 33 c && nat_le c 126) ≡ false = grind (arith, nat_tests) in
    elim (cases_Bool (is_space_or_tab c)) [
      | inl blank ↦ rw (t, u, v, w, blank) refl
      | inr none ↦ rw (t, u, v, w, none, hidden) refl
    ]

-- so do the bytes of a wide one
wide_stays : (bytes : List ℕ) (next : Place) → 1 ≤ length bytes → are_wide bytes ≡ true
    → place_after (unquoted Unknown) bytes ≡ Some next → next ≡ unquoted Unknown
wide_stays [] next some h led = absurd (omega (arith, some))
wide_stays (b ∷ bytes) next some h led =
    let both : Some next ≡ Some (unquoted Unknown) = sym led ∙ over_outside Unknown b bytes h in cc

-- so does any white space that a search goes on behind
white_stays : (c : ℕ) (next : Place) → is_whitespace c ≡ true → place_after (unquoted Unknown) (encode c) ≡ Some next
    → next ≡ unquoted Unknown
white_stays c next white led =
    elim (cases_lt c 128) [
      | inl small ↦
          let one = on_some (place_leads (unquoted Unknown) c) (λ n. place_after n [])
          (rw (encode_ascii c small) at led) in
          elim (cases_Bool (c == line_feed)) [
            | inl t ↦ absurd (no_feed (unquoted Unknown) one.0 c t one.1)
            | inr t ↦
                let first : Some one.0 ≡ Some (unquoted Unknown) =
                sym one.1 ∙ white_ascii c white (lt-ltb c 128 small) t in
                let second : Some one.0 ≡ Some next = one.2 in cc
          ]
      | inr large ↦ wide_stays (encode c) next (encoded_some c) (encoded_wide c large) led
    ]

-- no `#` is passed while it is unknown what is before
hash_stops : (c : ℕ) (next : Place) → (c == hash) ≡ true → place_after (unquoted Unknown) (encode c) ≡ Some next → ⊥
hash_stops c next is led =
    let same : c ≡ hash = eqb-true c hash is in
    let none : None ≡ Some next = rw (same, encode_ascii hash (omega arith)) at led in cc

-- so a line with such an end is no comment
shown : (cs more : List ℕ) (there : Place) (b : ℕ) → place_after (unquoted Unknown) (encode_utf8_all cs) ≡ Some there
    → ends_line there b ≡ true → (b ≡ line_feed → more ≡ [])
    → begins_with hash (skip_leading_whitespace (cs ++ b ∷ more)) ≡ false
shown [] more there b led ends alone =
    let some : Some (unquoted Unknown) ≡ Some there = led in
    let same : unquoted Unknown ≡ there = cc in
    elim (cases_Bool (b == line_feed)) [
      | inl is ↦ let feed = eqb-true b line_feed is in rw (alone feed, feed) refl
      | inr other ↦
          let parts = and_parts (b == hash) false (rw (← same, other) at ends) in
          let no : false ≡ true = parts.1 in cc
    ]
shown (c ∷ cs) more there b led ends alone =
    let parts = after_both (unquoted Unknown) (encode c) (encode_utf8_all cs) led in
    elim (cases_Bool (is_whitespace c)) [
      | inl white ↦
          rw white (shown cs more there b (rw (white_stays c parts.0 white parts.1) at parts.2) ends alone)
      | inr other ↦
          elim (cases_Bool (c == hash)) [
            | inl is ↦ absurd (hash_stops c parts.0 is parts.1)
            | inr is ↦ rw (other, is) refl
          ]
    ]

-- the bytes before the end of the logical line, by their number
pub cut_kept : {bytes kept : List ℕ} (end : List ℕ) (n : ℕ) → bytes ≡ kept ++ end → n ≡ length bytes - length end
    → take n bytes ≡ kept
cut_kept {bytes} {kept} end n parts e =
    let size : n ≡ length kept = omega (arith, e, ap length parts, length-append kept end) in
    rw (size, parts) (take-append_seam kept end)

-- so bytes are those before the end, and the end
pub found_kept : {bytes end : List ℕ} (n : ℕ) → from_line_end line_start bytes ≡ Some end
    → n ≡ length bytes - length end → bytes ≡ take n bytes ++ end
found_kept {bytes} {end} n h e =
    let is = found line_start bytes end h in
    is.spelled ∙ ap (λ kept. kept ++ end) (sym (cut_kept end n is.spelled e))

-- the end is no longer than all of them
pub found_shorter : (bytes end : List ℕ) → from_line_end line_start bytes ≡ Some end → length end ≤ length bytes
found_shorter bytes end h =
    let is = found line_start bytes end h in omega (arith, ap length is.spelled, length-append is.front end)

-- no other end is found there, and nothing else is kept
pub only_end : {bytes end kept rest : List ℕ} → from_line_end line_start bytes ≡ Some end
    → (is : BeginsWhole bytes kept rest) → is.end ≡ end
only_end {end = end} h is = let same : Some is.end ≡ Some end = sym is.ends ∙ h in cc

pub only_kept : {bytes end kept rest : List ℕ} (n : ℕ) → from_line_end line_start bytes ≡ Some end
    → n ≡ length bytes - length end → BeginsWhole bytes kept rest → kept ≡ take n bytes
only_kept {end = end} n h e is = sym (cut_kept end n (rw (only_end h is) at is.begins) e)

-- what a whole line begins with
record Parts (kept rest : List ℕ) : Type 0 where
  there : Place
  led : place_after line_start kept ≡ Some there
  byte : ℕ
  more : List ℕ
  tail : rest ++ line_feed ∷ [] ≡ byte ∷ more
  ends : ends_line there byte ≡ true
  alone : byte ≡ line_feed → more ≡ []

-- what comes before what a search finds is what the line keeps
same_front : (xs ys end : List ℕ) → xs ++ end ≡ ys ++ end → xs ≡ ys
same_front xs ys end e =
    let n : length xs ≡ length ys =
    omega (arith, ap length e, length-append xs end, length-append ys end) in
    sym (take-append_seam xs end) ∙ rw (e, n) (take-append_seam ys end)

-- the rest of a line begins with the byte that ends the logical line
tail_begins : (rest later : List ℕ) (b : ℕ) (behind : List ℕ) → rest ++ line_feed ∷ later ≡ b ∷ behind
    → (more : List ℕ) × (rest ++ line_feed ∷ [] ≡ b ∷ more)
tail_begins [] later b behind e = ([], cc)
tail_begins (c ∷ rest) later b behind e = (rest ++ line_feed ∷ [], cc)

-- no line feed is in the rest
tail_alone : (rest : List ℕ) (b : ℕ) (more : List ℕ) → no_line_feed rest ≡ true → rest ++ line_feed ∷ [] ≡ b ∷ more
    → b ≡ line_feed → more ≡ []
tail_alone [] b more none e feed = cc
tail_alone (c ∷ rest) b more none e feed =
    let first : c ≡ b = cc in
    let same : c ≡ line_feed = first ∙ feed in
    let no : false ≡ true = rw same at none in cc

-- a whole line has these parts
parts_of : {bytes kept rest : List ℕ} → BeginsWhole bytes kept rest → Parts kept rest
parts_of {bytes = bytes} {kept = kept} {rest = rest} is =
    let it = found line_start bytes is.end is.ends in
    let front : it.front ≡ kept = same_front it.front kept is.end (sym it.spelled ∙ is.begins) in
    let begins : rest ++ line_feed ∷ is.line.later ≡ it.byte ∷ it.behind = sym is.line.begins ∙ it.begins in
    let tail = tail_begins rest is.line.later it.byte it.behind begins in record {
      there = it.there;
      led = rw front at it.led;
      byte = it.byte;
      more = tail.0;
      tail = tail.1;
      ends = it.ends;
      alone = tail_alone rest it.byte tail.0 (none_among rest is.line.pass) tail.1;
    }

-- the rest and its line feed are ASCII
tail_ascii : {bytes kept rest : List ℕ} → BeginsWhole bytes kept rest → IsAscii (rest ++ line_feed ∷ [])
tail_ascii {rest = rest} is =
    IsAscii-append rest (line_feed ∷ []) (ascii_bytes rest is.line.pass)
    (IsAscii-cons line_feed [] (omega arith) IsAscii-nil)

-- the line with its line feed as characters
line_text : {bytes kept rest : List ℕ} → BeginsWhole bytes kept rest
    → chars ((kept ++ rest) ++ line_feed ∷ []) ≡ chars kept ++ (rest ++ line_feed ∷ [])
line_text {kept = kept} {rest = rest} is =
    ap chars (append_assoc kept rest (line_feed ∷ [])) ∙ chars-append kept (rest ++ line_feed ∷ []) is.text
    ∙ ap (λ tail. chars kept ++ tail) (chars-IsAscii (rest ++ line_feed ∷ []) (tail_ascii is))

-- the characters that are kept lead where their bytes lead
kept_led : {bytes kept rest : List ℕ} → BeginsWhole bytes kept rest → (parts : Parts kept rest)
    → place_after line_start (encode_utf8_all (chars kept)) ≡ Some parts.there
kept_led {kept = kept} is parts = ap (place_after line_start) (encodes-chars kept is.text) ∙ parts.led

-- a walk over a whole line ends in it, and keeps its front, without a carriage return at its end
pub whole_line_ends : {bytes kept rest : List ℕ} (seen : List ℕ) → BeginsWhole bytes kept rest
    → walk Outside seen (chars ((kept ++ rest) ++ line_feed ∷ []))
    ≡ ended (without_carriage_return (seen ++ chars kept))
whole_line_ends {kept = kept} seen is =
    let parts = parts_of is in
    let led = text_led line_start parts.there Outside (chars kept) (kept_led is parts) (inl refl) in
    let goes = led.1 seen in
    let ends = ended_by parts.there parts.byte led.0 parts.ends led.2 in
    rw (line_text is, parts.tail, walk-more Outside led.0 seen (chars kept) (parts.byte ∷ parts.more) goes, ends)
    (ap ended (kept_there parts.there parts.byte led.0 seen (chars kept) parts.ends led.2 goes))

-- a whole line is no comment
pub whole_is_shown : {bytes kept rest : List ℕ} → BeginsWhole bytes kept rest
    → begins_with hash (skip_leading_whitespace (chars ((kept ++ rest) ++ line_feed ∷ []))) ≡ false
whole_is_shown {kept = kept} is =
    let parts = parts_of is in
    rw (line_text is, parts.tail) (shown (chars kept) parts.more parts.there parts.byte (kept_led is parts) parts.ends
    parts.alone)

-- it is text, has no line feed, and the bytes begin with it and one
pub whole_text : {bytes kept rest : List ℕ} → BeginsWhole bytes kept rest → IsUtf8 (kept ++ rest)
whole_text {kept = kept} {rest = rest} is =
    IsUtf8-append kept rest is.text (IsUtf8-from_ascii rest (ascii_bytes rest is.line.pass))

pub whole_line_none : {bytes kept rest : List ℕ} → BeginsWhole bytes kept rest → no_line_feed (kept ++ rest) ≡ true
whole_line_none {kept = kept} {rest = rest} is =
    let parts = parts_of is in
    rw (
      list_all-append (λ c. not (c == line_feed)) kept rest,
      led_none line_start parts.there kept parts.led,
      none_among rest is.line.pass,
    ) refl

pub whole_begins : {bytes kept rest : List ℕ} → BeginsWhole bytes kept rest
    → BeginsLine (λ b. not (b == line_feed)) bytes (kept ++ rest)
whole_begins {kept = kept} {rest = rest} is = record {
  pass = whole_line_none is;
  later = is.line.later;
  begins = is.begins ∙ ap (λ more. kept ++ more) is.line.begins
      ∙ sym (append_assoc kept rest (line_feed ∷ is.line.later));
}
