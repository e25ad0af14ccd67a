-- Watches over bytes.
use Rattle.std.proofs.Common.{◌≡◌, ℕ, ◌+◌, ◌-◌, ◌<◌, ◌^◌, min, Bool, true, false, List, [], ◌∷◌, ◌++◌}
use Rattle.std.proofs.Common.{length, refl, sym, ap, ◌∙◌, arith, take, drop, not, add-zero, cond, suc}
use Rattle.std.specs.Prelude.{◌==◌}
use Rattle.std.specs.Str.{IsAscii}
use Rattle.std.specs.List.{prefix_len}
use Rattle.std.proofs.lemmas.Grind.{common_steps}
use Rattle.std.proofs.lemmas.List.{take-append-drop}
use Rattle.std.proofs.lemmas.Bool.{and_parts, lt-ltb}
use Rattle.std.proofs.lemmas.Str.{IsAscii-drop}
use Rattle.dotenvy_format.specs.Characters.{line_feed}
use Rattle.dotenvy_format.specs.PhysicalLines.{no_line_feed}
use Rattle.dotenvy_findings.specs.declared.bytes.BadByte.{BadByte}
use Rattle.dotenvy_findings.specs.declared.bytes.CharacterPart.{CharacterPart}
use Rattle.dotenvy_findings.specs.declared.bytes.CharacterPart.TheVariants.{AllButOne, AllButTwo}
use Rattle.dotenvy_findings.specs.declared.bytes.CharacterPart.TheVariants.{First, NoText, Nothing}
use Rattle.dotenvy_findings.specs.declared.bytes.MarkPart.{MarkPart}
use Rattle.dotenvy_findings.specs.declared.bytes.MarkPart.TheVariants as mark
use Rattle.dotenvy_findings.specs.Bytes.{Watch, is_between, is_past, is_whole, stepped, watched}
use Rattle.dotenvy_findings.specs.Places.{one_more}

-- to watch two parts one after the other is to watch both in one
pub parts_join : (watch : Watch) (first second : List ℕ) →
    watched watch (first ++ second) ≡ watched (watched watch first) second
parts_join watch [] second = refl
parts_join watch (byte ∷ first) second = parts_join (stepped watch byte) first second

-- a watch over a front, one byte behind it, and the rest is a watch over all of them
pub goes_on : {mid last whole : Watch} (watch : Watch) (bytes front back rest : List ℕ) (n end : ℕ) →
    front ≡ take n bytes → back ≡ drop n bytes → back ≡ end ∷ rest → mid ≡ watched watch front →
    last ≡ stepped mid end → watched watch bytes ≡ whole → watched last rest ≡ whole
goes_on {mid} watch bytes front back rest n end fronts backs parts over stepping before =
    let joins : bytes ≡ front ++ end ∷ rest =
    sym (take-append-drop n bytes) ∙ rw (← fronts, ← backs, parts) refl in
    ap (λ w. watched w rest) stepping
    ∙ ap (λ w. watched (stepped w end) rest) over
    ∙ sym (parts_join watch front (end ∷ rest))
    ∙ rw joins at before

-- a watch between characters, in this column of this line
abbrev pub between : ℕ → ℕ → List BadByte → Watch
between line column found = record {
  cursor = record {
    place = record { line = line; column = column };
    part = Nothing;
    mark = mark.Past;
  };
  found = found;
}

is_false : (b : Bool) → not b ≡ true → b ≡ false
is_false true h = absurd cc
is_false false h = refl

-- a byte of ASCII within a line counts one column
ascii_step : (line column : ℕ) (found : List BadByte) (byte : ℕ) → byte < 128 → (byte == line_feed) ≡ false →
    stepped (between line column found) byte ≡ between line (one_more column) found
ascii_step line column found byte ascii none = rw (lt-ltb byte 128 ascii, none) refl

-- counts that stop at the same number
adds_on : (a n most : ℕ) → min (min (a + 1) most + n) most ≡ min (a + suc n) most
adds_on a n most = grind arith

-- bytes of ASCII within a line count a column each
pub ascii_run : (line column : ℕ) (found : List BadByte) (bytes : List ℕ) → column < 2 ^ 64 → IsAscii bytes →
    no_line_feed bytes ≡ true →
    watched (between line column found) bytes ≡ between line (min (column + length bytes) (2 ^ 64 - 1)) found
ascii_run line column found [] fits ascii none =
    let stays : column ≡ min (column + 0) (2 ^ 64 - 1) = grind (arith, add-zero) in
    ap (λ n. between line n found) stays
ascii_run line column found (byte ∷ bytes) fits ascii none =
    let parts = and_parts (not (byte == line_feed)) (no_line_feed bytes) none in
    let step = ascii_step line column found byte (ascii 0) (is_false (byte == line_feed) parts.0) in
    ap (λ watch. watched watch bytes) step
    ∙ ascii_run line (one_more column) found bytes (grind arith) (IsAscii-drop (byte ∷ bytes) 1 ascii) parts.1
    ∙ ap (λ n. between line n found) (adds_on column (length bytes) (2 ^ 64 - 1))

-- nothing of a character was read
whole_is : (part : CharacterPart) → is_whole part ≡ true → part ≡ Nothing
whole_is Nothing h = refl
whole_is (First first) h = absurd cc
whole_is AllButOne h = absurd cc
whole_is AllButTwo h = absurd cc
whole_is NoText h = absurd cc

-- no byte order mark is being read
past_is : (part : MarkPart) → is_past part ≡ true → part ≡ mark.Past
past_is mark.Nothing h = absurd cc
past_is mark.First h = absurd cc
past_is mark.Second h = absurd cc
past_is mark.Past h = refl

-- a watch between characters
pub between_is : (watch : Watch) → is_between watch.cursor ≡ true →
    watch ≡ between watch.cursor.place.line watch.cursor.place.column watch.found
between_is watch h =
    let parts = and_parts (is_whole watch.cursor.part) (is_past watch.cursor.mark) h in
    let put : CharacterPart → MarkPart → Watch =
    λ part mark. record watch { cursor = record (watch.cursor) { part = part; mark = mark } } in
    ap (λ part. put part watch.cursor.mark) (whole_is watch.cursor.part parts.0)
    ∙ ap (put Nothing) (past_is watch.cursor.mark parts.1)

-- one byte more, if it is no line feed, before bytes without one
none_before : (goes_on : Bool) (byte n : ℕ) (bytes : List ℕ) → not (byte == line_feed) ≡ goes_on →
    no_line_feed (take n bytes) ≡ true → no_line_feed (take (cond goes_on (1 + n) 0) (byte ∷ bytes)) ≡ true
none_before true byte n bytes e later = grind (arith, common_steps, e, later)
none_before false byte n bytes e later = refl

-- before the first line feed there is none
pub line_has_none : (bytes : List ℕ) →
    no_line_feed (take (prefix_len (λ b. not (b == line_feed)) bytes) bytes) ≡ true
line_has_none [] = refl
line_has_none (byte ∷ bytes) =
    none_before (not (byte == line_feed)) byte (prefix_len (λ b. not (b == line_feed)) bytes) bytes refl
    (line_has_none bytes)

-- bytes of ASCII within a line move a watch between characters by a column each
pub ascii_line : (watch : Watch) (bytes : List ℕ) (column : ℕ) → is_between watch.cursor ≡ true →
    watch.cursor.place.column < 2 ^ 64 → IsAscii bytes → no_line_feed bytes ≡ true →
    column ≡ min (watch.cursor.place.column + length bytes) (2 ^ 64 - 1) →
    record watch { cursor = record (watch.cursor) { place = record (watch.cursor.place) { column = column } } }
    ≡ watched watch bytes
ascii_line watch bytes column free fits ascii none counted =
    let moved : Watch → Watch =
    λ w. record w { cursor = record (w.cursor) { place = record (w.cursor.place) { column = column } } } in
    let place = watch.cursor.place in
    ap moved (between_is watch free)
    ∙ ap (λ n. between place.line n watch.found) counted
    ∙ sym (ap (λ w. watched w bytes) (between_is watch free)
    ∙ ascii_run place.line place.column watch.found bytes fits ascii none)
