-- Runs of bytes that are characters which pass a test.
use Rattle.std.proofs.Common.{◌≡◌, ℕ, ◌+◌, ◌-◌, ◌<◌, ◌≤◌, ltb, Bool, true, false, not, filter, ◌&&◌}
use Rattle.std.proofs.Common.{List, [], ◌∷◌, ◌++◌, refl, sym, ap, arith, take-add, lt-ltb, le-ltb, zero-add}
use Rattle.std.proofs.Common.{take, drop, length, length-append, length-drop, append_assoc}
use Rattle.std.specs.Prelude.{Option, Some, None, unwrap_or}
use Rattle.std.specs.List.{list_all, prefix_len, position_from}
use Rattle.std.specs.Str.{chars, IsUtf8, IsCharBoundary, encode_utf8_all}
use Rattle.std.proofs.Math.Utf8.{encode, scalar, scalars}
use Rattle.std.proofs.Math.Seq.{take-append_seam, drop-append_seam, drop-append-add}
use Rattle.std.proofs.lemmas.List.Sums.{position_or_len_is}
use Rattle.std.proofs.lemmas.List.Folds.{list_all-append}
use Rattle.std.proofs.lemmas.List.Elements.{filter-append}
use Rattle.std.proofs.lemmas.List.{append-nil, take-append-drop, drop-drop}
use Rattle.std.proofs.lemmas.Bool.Decides.{nat_tests}
use Rattle.std.proofs.lemmas.Bool.{and_parts, false_from_ne_true, cases_Bool}
use Rattle.std.proofs.Common.{inl, inr, ◌∙◌}
use Rattle.std.proofs.lemmas.Str.{chars-nil, chars-append, encodes-chars, IsUtf8-nil}
use Rattle.std.proofs.lemmas.Str.{IsUtf8-take, IsUtf8-drop}
use Rattle.std.proofs.lemmas.Str.{IsCharBoundary-at_seam, IsCharBoundary-start, IsCharBoundary-from_rest}
use Rattle.memchr.specs.Find.{IsFirstByte}
use Rattle.dotenvy_format.specs.declared.text.Class.TheVariants.{Quoted}
use Rattle.dotenvy_format.specs.Characters.{begins_passing}
use Rattle.dotenvy_format.specs.inside.Slices.{BeginsWith, IsSpan, PassesBytes, PassesTo, ends_by_bytes, in_run}
use Rattle.dotenvy_format.specs.inside.Slices.{is_in_quotes}
use Rattle.dotenvy_format.specs.declared.text.Class.{Class}
use Rattle.dotenvy_format.specs.inside.Slices.{has_character}
use Rattle.dotenvy_format.proofs.bytes.ByteClasses.{lead, character_passes, bytes_pass, first_fails, none_begins}
use Rattle.dotenvy_format.proofs.bytes.Slices.{begins_with_first, first_alone}

-- a run of bytes that pass, put before others, lengthens the run at their front by its own length
pub passed_over : (byte : ℕ → Bool) (xs ys : List ℕ) → list_all byte xs ≡ true
    → prefix_len byte (xs ++ ys) ≡ length xs + prefix_len byte ys
passed_over byte [] ys h = omega arith
passed_over byte (x ∷ xs) ys h =
    grind (arith, passed_over byte xs ys)

-- no character passes yet
none_passed : {passes : ℕ → Bool} (text : List ℕ) → IsUtf8 text → PassesTo passes text 0
none_passed text utf8 = record { boundary = IsCharBoundary-start text utf8; pass = rw chars-nil }

-- where the characters pass up to a place, and from there up to a second, they pass up to the second
passes_on : {passes : ℕ → Bool} {text : List ℕ} {i j : ℕ} → IsUtf8 text → PassesTo passes text i
    → PassesTo passes (drop i text) j → PassesTo passes text (i + j)
passes_on {text} {i} {j} utf8 first second =
    let front = IsUtf8-take text i utf8 first.boundary in record {
      boundary = IsCharBoundary-from_rest text i j first.boundary.0 second.boundary;
      pass = rw (take-add, chars-append, list_all-append, first.pass) second.pass;
    }

-- a first character that passes does so up to its own length
first_passes : {passes : ℕ → Bool} {text rest : List ℕ} {c : ℕ} → IsUtf8 text → BeginsWith text c rest
    → passes c ≡ true → PassesTo passes text (length (encode c))
first_passes {text} {rest} {c} utf8 begins h = record {
  boundary = IsCharBoundary-at_seam text (encode c) rest begins.bytes begins.follows;
  pass = rw (begins.bytes, take-append_seam, (first_alone text rest c utf8 begins.bytes).1, h);
}

-- the bytes that pass at the front of a text, given as characters, are whole characters of the class
class_run : (class : Class) (cs : List ℕ) → scalars cs ≡ true
    → PassesTo (has_character class) (encode_utf8_all cs) (prefix_len (in_run class) (encode_utf8_all cs))
class_run class [] are = none_passed [] IsUtf8-nil
class_run class (c ∷ cs) are =
    let later = encode_utf8_all cs in
    let utf8 : IsUtf8 (encode c ++ later) = (c ∷ cs, (are, refl)) in
    let begins = begins_with_first (encode c ++ later) later c utf8 refl in
    elim (cases_Bool (in_run class (lead c))) [
      | inl h ↦
          let rest = class_run class cs (and_parts (scalar c) (scalars cs) are).1 in
          rw (passed_over (in_run class) (encode c) later (bytes_pass class c h)) (passes_on utf8
          (first_passes utf8 begins (character_passes class c h)) (rw (drop-append_seam (encode c) later) rest))
      | inr h ↦ rw (none_begins (in_run class) c later h) (none_passed (encode c ++ later) utf8)
    ]

-- the bytes that pass at the front of a text are a text, and its characters are of the class
pub run_passes : (class : Class) {text bytes : List ℕ} {end len : ℕ} → IsUtf8 text → bytes ≡ text
    → end ≡ prefix_len (in_run class) bytes → len ≡ end → PassesTo (has_character class) text len
run_passes class utf8 same is e = rw (e, is, same) (rw utf8.1.1 at (class_run class utf8.0 utf8.1.0))

-- a search for a byte that fails, with places counted from n, tells where the bytes end that pass
run_from : (byte : ℕ → Bool) (n : ℕ) (bytes : List ℕ)
    → unwrap_or (position_from (λ b. not (byte b)) n bytes) (n + length bytes) ≡ n + prefix_len byte bytes
run_from byte n [] = refl
run_from byte n (b ∷ bytes) = grind (arith, run_from byte (n + 1) bytes)

-- a search gives where the bytes end that pass
pub run_to_position : (byte : ℕ → Bool) (bytes : List ℕ) (found : Option ℕ)
    → found ≡ position_from (λ b. not (byte b)) 0 bytes → unwrap_or found (length bytes) ≡ prefix_len byte bytes
run_to_position byte bytes found e = rw e (simp zero-add at (run_from byte 0 bytes))

-- where a search gives the first byte that passes a test, the bytes that fail it end there
pub run_to_byte : (test : ℕ → Bool) (bytes : List ℕ) (found : Option ℕ) → IsFirstByte test bytes found
    → unwrap_or found (length bytes) ≡ prefix_len (λ b. not (test b)) bytes
run_to_byte test bytes None none =
    let fails = λ (k : ℕ) (h : k < length bytes). false_from_ne_true _ (none k (omega arith) h) in
    sym (position_or_len_is test bytes (length bytes) 0 (omega arith) fails (λ h. absurd (omega arith)))
run_to_byte test bytes (Some n) found =
    let fails = λ (k : ℕ) (h : k < n). false_from_ne_true _ (found.0.before k (omega arith) h) in
    sym (position_or_len_is test bytes n 0 (omega arith) fails (λ h. found.1))

-- between these quotes, if they are ASCII, a run ends where its bytes do
pub run_quoted : (quote : ℕ) (bytes : List ℕ) (len : ℕ) → quote < 128
    → len ≡ prefix_len (is_in_quotes quote) bytes
    → len ≡ prefix_len (λ b. ltb quote 128 && is_in_quotes quote b) bytes
run_quoted quote bytes len small h = simp (lt-ltb quote 128 small) h

-- where the quote isn't ASCII, the run of bytes between quotes counts as empty
pub no_quoted_run : (quote : ℕ) (bytes : List ℕ) → 128 ≤ quote → 0 ≡ prefix_len (in_run (Quoted quote)) bytes
no_quoted_run quote [] large = refl
no_quoted_run quote (b ∷ bytes) large = rw (le-ltb quote 128 large)

-- where a run of bytes ends, by how it is searched
pub ruleset run_ends = (run_to_position, run_to_byte, run_quoted, no_quoted_run)

-- behind the bytes that pass at the front of a text, given as characters, none of such a class begins
class_end : (class : Class) (cs : List ℕ) → scalars cs ≡ true → ends_by_bytes class ≡ true
    → not (begins_passing (has_character class)
    (chars (drop (prefix_len (in_run class) (encode_utf8_all cs)) (encode_utf8_all cs)))) ≡ true
class_end class [] are by = rw chars-nil refl
class_end class (c ∷ cs) are by =
    let later = encode_utf8_all cs in
    let utf8 : IsUtf8 (encode c ++ later) = (c ∷ cs, (are, refl)) in
    elim (cases_Bool (in_run class (lead c))) [
      | inl h ↦
          let rest = class_end class cs (and_parts (scalar c) (scalars cs) are).1 by in
          rw (passed_over (in_run class) (encode c) later (bytes_pass class c h), drop-append-add (encode c) later _) rest
      | inr h ↦
          let begins = begins_with_first (encode c ++ later) later c utf8 refl in
          rw (none_begins (in_run class) c later h, begins.characters) (rw (first_fails class c by h) refl)
    ]

-- so a text is cut there into the longest run of the class, and the rest
pub run_cut : (class : Class) {text bytes : List ℕ} {end len : ℕ} → IsUtf8 text → bytes ≡ text
    → end ≡ prefix_len (in_run class) bytes → len ≡ end → ends_by_bytes class ≡ true
    → IsSpan (has_character class) (chars text) (chars (take len text)) (chars (drop len text))
run_cut class {text} utf8 same is e by =
    let passes = run_passes class utf8 same is e in
    let front = IsUtf8-take text _ utf8 passes.boundary in record {
      spelled = rw (← chars-append (take _ text) (drop _ text) front, take-append-drop);
      pass = passes.pass;
      longest = rw (e, is, same) (rw utf8.1.1 at (class_end class utf8.0 utf8.1.0 by));
    }

-- the characters of a text pass up to where this is left of it
pub record Passed (passes : ℕ → Bool) (text rest : List ℕ) : Type 0 where
  pub len : ℕ
  pub front : PassesTo passes text len
  pub left : rest ≡ drop len text

-- where all of the text is left, nothing before it has to pass
pub passed_none : {passes : ℕ → Bool} {text : List ℕ} → IsUtf8 text → Passed passes text text
passed_none {text} utf8 = record { len = 0; front = none_passed text utf8; left = refl }

-- characters that pass, next in what is left of the text, may be passed too
pub passed_run : {passes : ℕ → Bool} {text rest after : List ℕ} {len : ℕ} → IsUtf8 text → Passed passes text rest
    → PassesTo passes rest len → after ≡ drop len rest → Passed passes text after
passed_run {passes} {text} {rest} {after} {len} utf8 passed to e = record {
  len = passed.len + len;
  front = passes_on utf8 passed.front (rw passed.left at to);
  left = rw (e, passed.left) (drop-drop len passed.len text);
}

-- a character that passes, next in what is left of the text, may be passed too
pub passed_first : {passes : ℕ → Bool} {text rest after : List ℕ} {c : ℕ} → IsUtf8 text → Passed passes text rest
    → BeginsWith rest c after → passes c ≡ true → Passed passes text after
passed_first {text} {after} {c} utf8 passed begins h =
    let follows = rw (← passed.left) at (IsUtf8-drop text passed.len utf8 passed.front.boundary) in
    passed_run utf8 passed (first_passes follows begins h) (rw begins.bytes (sym (drop-append_seam (encode c) after)))

-- the text may be cut where this is left of it
pub passed_boundary : {passes : ℕ → Bool} {text after : List ℕ} → Passed passes text after
    → IsCharBoundary text (length text - length after)
passed_boundary {text} {after} passed =
    let size = ap length passed.left in
    let at : length text - length after ≡ passed.len =
    omega (arith, length-drop passed.len text, passed.front.boundary.0) in
    rw at passed.front.boundary

-- where the next character fails, or there is none, what stands before is the longest front
pub passed_all : {passes : ℕ → Bool} {text after : List ℕ} → IsUtf8 text → Passed passes text after
    → not (begins_passing passes (chars after)) ≡ true
    → IsSpan passes (chars text) (chars (take (length text - length after) text))
    (chars (drop (length text - length after) text))
passed_all {text} {after} utf8 passed h =
    let n = passed.len in
    let front = IsUtf8-take text n utf8 passed.front.boundary in
    let size = ap length passed.left in
    let at : length text - length after ≡ n = omega (arith, length-drop n text) in
    rw at record {
      spelled = rw (← chars-append (take n text) (drop n text) front, take-append-drop);
      pass = passed.front.pass;
      longest = rw passed.left at h;
    }

-- where no byte from 128 on is kept, those kept of a character's bytes are this character, or none
kept_of : (p : ℕ → Bool) → ((b : ℕ) → 128 ≤ b → p b ≡ false) → (c : ℕ) → filter p (encode c) ≡ filter p (c ∷ [])
unfolding encode
kept_of p ascii c = grind (arith, nat_tests, ascii)

-- where no byte from 128 on is kept, those kept of a text's bytes are those kept of its characters
all_kept : (p : ℕ → Bool) → ((b : ℕ) → 128 ≤ b → p b ≡ false) → (cs : List ℕ)
    → filter p (encode_utf8_all cs) ≡ filter p cs
all_kept p ascii [] = refl
all_kept p ascii (c ∷ cs) =
    rw (filter-append, kept_of p ascii c, all_kept p ascii cs) (sym (filter-append p (c ∷ []) cs))

-- ASCII characters are found among the bytes
pub characters_kept : (p : ℕ → Bool) → ((b : ℕ) → 128 ≤ b → p b ≡ false) → (text : List ℕ) → IsUtf8 text
    → filter p text ≡ filter p (chars text)
characters_kept p ascii text utf8 = rw encodes-chars at (all_kept p ascii (chars text))

-- where a search for a byte that fails finds none, all pass
none_fails : (passes : ℕ → Bool) (n : ℕ) (bs : List ℕ) → position_from (λ b. not (passes b)) n bs ≡ None
    → list_all passes bs ≡ true
none_fails passes n [] h = refl
none_fails passes n (b ∷ bs) h = grind (arith, none_fails passes (n + 1) bs)

-- nothing is passed yet
pub passed_nothing : {passes : ℕ → Bool} (bytes : List ℕ) → PassesBytes passes bytes bytes
passed_nothing bytes = record { front = []; spelled = refl; pass = refl }

-- bytes that all pass may be passed too
pub passes_more : {passes : ℕ → Bool} {bytes rest after : List ℕ} (more : List ℕ) → PassesBytes passes bytes rest
    → rest ≡ more ++ after → list_all passes more ≡ true → PassesBytes passes bytes after
passes_more {passes} {after} more before parts all = record {
  front = before.front ++ more;
  spelled = rw (before.spelled, parts, append_assoc);
  pass = rw (list_all-append, before.pass) all;
}

-- so may all before a rest that is left of others
pub passes_both : {passes : ℕ → Bool} {bytes rest after : List ℕ} → PassesBytes passes bytes rest
    → PassesBytes passes rest after → PassesBytes passes bytes after
passes_both before next = passes_more next.front before next.spelled next.pass

-- where nothing is left, all pass
pub all_passed : {passes : ℕ → Bool} {bytes rest : List ℕ} → PassesBytes passes bytes rest → rest ≡ []
    → list_all passes bytes ≡ true
all_passed before none = rw (before.spelled, none, append-nil before.front) before.pass

-- a block in which a search for a byte that fails finds none may be passed too
pub passes_block : {passes : ℕ → Bool} {bytes rest after : List ℕ} (block : List ℕ) → PassesBytes passes bytes rest
    → rest ≡ block ++ after → position_from (λ b. not (passes b)) 0 block ≡ None → PassesBytes passes bytes after
passes_block {passes} block before parts none = passes_more block before parts (none_fails passes 0 block none)

-- after bytes that pass, the run goes on to where a search in the others finds one that fails
pub run_behind : {passes : ℕ → Bool} {bytes rest : List ℕ} {found : Option ℕ} → PassesBytes passes bytes rest
    → found ≡ position_from (λ b. not (passes b)) 0 rest
    → length bytes - length rest + unwrap_or found (length rest) ≡ prefix_len passes bytes
run_behind {passes} {rest} {found} before e =
    let run = run_to_position passes rest found e in
    let over = passed_over passes before.front rest before.pass in
    rw before.spelled (omega (arith, length-append before.front rest))

-- what a search finds in the first bytes, it finds with others behind them
found_in_front : (test : ℕ → Bool) (n : ℕ) (bytes more : List ℕ) (end : ℕ) → Some end ≡ position_from test n bytes
    → Some end ≡ position_from test n (bytes ++ more)
found_in_front test n [] more end h = grind arith
found_in_front test n (b ∷ bytes) more end h = grind (arith, found_in_front test (n + 1) bytes more end)

-- after bytes that pass, the run ends where a search in the next block finds one that fails
pub run_in_block : {passes : ℕ → Bool} {bytes rest : List ℕ} {end : ℕ} (block after : List ℕ)
    → PassesBytes passes bytes rest → rest ≡ block ++ after → Some end ≡ position_from (λ b. not (passes b)) 0 block
    → length bytes - length rest + end ≡ prefix_len passes bytes
run_in_block {passes} {end = end} block after before parts found =
    run_behind {found = Some end} before (rw parts (found_in_front (λ b. not (passes b)) 0 block after end found))

-- where bytes that pass come before a rest, those before a longer rest pass, too
front_passes : (passes : ℕ → Bool) (front block before rest : List ℕ) → front ++ block ≡ before ++ rest
    → length rest ≤ length block → list_all passes before ≡ true → list_all passes front ≡ true
front_passes passes [] block before rest e less h = refl
front_passes passes (x ∷ front) block [] rest e less h =
    absurd (omega (arith, ap length e, less, length-append front block))
front_passes passes (x ∷ front) block (y ∷ before) rest e less h =
    let heads : x ≡ y = cc in
    let tails : front ++ block ≡ before ++ rest = cc in
    let parts = and_parts (passes y) (list_all passes before) h in
    rw (heads, parts.0) (front_passes passes front block before rest tails less parts.1)

-- where a run goes on at least to a rest, what a search finds in the last bytes of all ends it, if they begin before
pub run_in_last : {passes : ℕ → Bool} {bytes rest : List ℕ} (front block : List ℕ) {found : Option ℕ}
    → PassesBytes passes bytes rest → bytes ≡ front ++ block → length rest ≤ length block
    → found ≡ position_from (λ b. not (passes b)) 0 block
    → length front + unwrap_or found (length block) ≡ prefix_len passes bytes
run_in_last {passes} {bytes} {rest} front block {found} before parts less e =
    let shorter : PassesBytes passes bytes block = record {
      front = front;
      spelled = parts;
      pass = front_passes passes front block before.front rest (sym parts ∙ before.spelled) less before.pass;
    } in
    let size = ap length parts in
    let whole = run_behind shorter e in
    omega (arith, size, whole, length-append front block)

-- where the run goes on to the end, all bytes pass
pub all_in_run : (passes : ℕ → Bool) (bytes : List ℕ) → prefix_len passes bytes ≡ length bytes
    → list_all passes bytes ≡ true
all_in_run passes [] h = refl
all_in_run passes (b ∷ bytes) h = grind (arith, all_in_run passes bytes)

-- two parts of a list make it
pub cut_parts : {bytes front block : List ℕ} (n : ℕ) → front ≡ take n bytes → block ≡ drop n bytes
    → bytes ≡ front ++ block
cut_parts {bytes} n f b = rw (f, b) (sym (take-append-drop n bytes))
