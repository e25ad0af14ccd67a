-- The written form by its bytes: character by character, pair by pair, and how many there are.
use Rattle.std.proofs.Common.{◌≡◌, ℕ, zero, suc, ◌+◌, Bool, true, false, not, cond, List, [], ◌∷◌, ◌++◌, ◌≤◌, map}
use Rattle.std.proofs.Common.{filter, refl, ap, arith, take, drop, length, length-append, append_assoc}
use Rattle.std.specs.Prelude.{◌==◌}
use lib.Utf8.{encode}
use Rattle.std.specs.Prelude.{encode_utf8, encode_utf8_all}
use Rattle.std.specs.List.{flat_map, list_all, prefix_len}
use Rattle.std.specs.Str.{chars, IsUtf8}
use Rattle.std.proofs.lemmas.List.{append-nil}
use Rattle.std.proofs.lemmas.Str.{encode_ascii, encodes-chars, encodes-append, chars_past_char}
use Rattle.dotenvy_format.proofs.bytes.AsciiRows.{row, cut_row}
use Rattle.dotenvy_format.specs.Characters.{double_quote, backslash, equals_sign, line_feed, byte_len}
use Rattle.std.proofs.lemmas.Bool.Decides.{nat_tests}
use Rattle.dotenvy_format.specs.inside.Slices.{IsSpan}
use Rattle.dotenvy_format.specs.Value.{is_plain_inside}
use Rattle.std.proofs.lemmas.Bool.{and_parts}
use Rattle.dotenvy_format.proofs.lines.LineEnds.{span_stops}
use Rattle.dotenvy_format.proofs.Basics.{and_left, and_right, not_is}
use Rattle.dotenvy_format.specs.Written.{needs_backslash, written_character, written_pair, written_text, written_bytes}

-- a byte that doesn't mean itself between double quotes needs a backslash, and no other
special : (b : ℕ) → needs_backslash b ≡ not (is_plain_inside b)
special b = grind (arith, nat_tests)

-- bytes that mean themselves need none
passed_special : (run rest : List ℕ) → list_all is_plain_inside run ≡ true
    → filter needs_backslash (run ++ rest) ≡ filter needs_backslash rest
passed_special [] rest h = refl
passed_special (b ∷ run) rest h =
    let parts = and_parts (is_plain_inside b) (list_all is_plain_inside run) h in
    let no : needs_backslash b ≡ false = rw (special b, parts.0) refl in rw no (passed_special run rest parts.1)

-- behind a run of them, none is left, or one comes first
pub none_special : {bytes run rest : List ℕ} → IsSpan is_plain_inside bytes run rest → length rest ≡ 0
    → length (filter needs_backslash bytes) ≡ 0
none_special {run = run} {rest = []} span e = rw (span.spelled, passed_special run [] span.pass) refl
none_special {run = run} {rest = b ∷ rest} span e = absurd (omega (arith, e))

pub one_special : {bytes run rest behind : List ℕ} {b : ℕ} → IsSpan is_plain_inside bytes run rest
    → rest ≡ b ∷ behind
    → length (filter needs_backslash bytes) ≡ 1 + length (filter needs_backslash behind)
one_special {run = run} {rest = rest} {behind = behind} {b = b} span parts =
    let stops : is_plain_inside b ≡ false = span_stops span parts in
    let is : needs_backslash b ≡ true = rw (special b, stops) refl in
    rw (span.spelled, passed_special run rest span.pass, parts, is) (omega arith)

-- there are no more than bytes
pub specials_len : (bytes : List ℕ) → length (filter needs_backslash bytes) ≤ length bytes
specials_len [] = omega arith
specials_len (b ∷ bytes) = grind (arith, specials_len bytes)

-- the bytes of a value's last characters, and of the end of its line
abbrev pub left_bytes : List ℕ → List ℕ
left_bytes cs = encode_utf8_all (flat_map written_character cs ++ double_quote ∷ line_feed ∷ [])

-- only ASCII characters are written after a backslash
pub ascii_backslash : (b : ℕ) → 128 ≤ b → needs_backslash b ≡ false
ascii_backslash b h = grind (arith, nat_tests, h)

-- a pair is its key, an equals sign, a quote, and the rest
pub pair_bytes : (key text : List ℕ) → IsUtf8 key →
    written_bytes ((chars key, chars text) ∷ []) ≡ key ++ equals_sign ∷ double_quote ∷ left_bytes (chars text)
unfolding encode
pair_bytes key text utf8 =
    rw (append-nil (written_pair (chars key, chars text)), encodes-append (chars key), encodes-chars key utf8)

-- the bytes of a value's last characters are those of the first of them, as it is written, then of the others
left_one : (c : ℕ) (cs : List ℕ) → left_bytes (c ∷ cs) ≡ encode_utf8_all (written_character c) ++ left_bytes cs
left_one c cs =
    rw (append_assoc (written_character c) (flat_map written_character cs) (double_quote ∷ line_feed ∷ []))
    (encodes-append (written_character c) (flat_map written_character cs ++ double_quote ∷ line_feed ∷ []))

-- a character that needs a backslash is written as one, then its own bytes
pub escaped_bytes : (c : ℕ) → needs_backslash c ≡ true →
    encode_utf8_all (written_character c) ≡ backslash ∷ encode_utf8 c
escaped_bytes c h = rw (h, encode_ascii backslash (omega arith), append-nil (encode_utf8 c))

-- a character that needs no backslash is written as its own bytes
unescaped_bytes : (c : ℕ) → needs_backslash c ≡ false → encode_utf8_all (written_character c) ≡ encode_utf8 c
unescaped_bytes c h = rw (h, append-nil (encode_utf8 c))

-- a written character has its own bytes, and one more if it is kept as one that needs a backslash
one_len : (c : ℕ) (b : Bool) (kept : List ℕ) →
    byte_len (cond b (backslash ∷ c ∷ []) (c ∷ [])) + length kept
    ≡ length (encode_utf8 c) + length (cond b (c ∷ kept) kept)
one_len c true kept = rw (encode_ascii backslash (omega arith), append-nil (encode_utf8 c)) (omega arith)
one_len c false kept = rw (append-nil (encode_utf8 c))

-- a backslash more for each character that needs one, and the quote and the line feed
pub left_len : (cs : List ℕ) →
    length (left_bytes cs) ≡ length (encode_utf8_all cs) + length (filter needs_backslash cs) + 2
unfolding encode
left_len [] = refl
left_len (c ∷ cs) =
    let one = one_len c (needs_backslash c) (filter needs_backslash cs) in
    let l = simp length-append at (ap length (left_one c cs)) in
    omega (arith, one, l, left_len cs, length-append (encode_utf8 c) (encode_utf8_all cs))

-- what is left of a text is written as its first character, then what is left behind that one
pub left_next : (rest more : List ℕ) (c : ℕ) → IsUtf8 rest → rest ≡ encode_utf8 c ++ more →
    left_bytes (chars rest) ≡ encode_utf8_all (written_character c) ++ left_bytes (chars more)
left_next rest more c utf8 spelled = rw (chars_past_char rest more c utf8 spelled) (left_one c (chars more))

-- characters that mean themselves in double quotes are written as they are, before what is left
left_plain : (cs ds : List ℕ) → list_all is_plain_inside cs ≡ true
    → left_bytes (cs ++ ds) ≡ encode_utf8_all cs ++ left_bytes ds
left_plain [] ds h = refl
left_plain (c ∷ cs) ds h =
    let plain = not_is (needs_backslash c) (and_left (is_plain_inside c) (list_all is_plain_inside cs) h) in
    let others = left_plain cs ds (and_right (is_plain_inside c) (list_all is_plain_inside cs) h) in
    rw (left_one c (cs ++ ds), unescaped_bytes c plain, others, append_assoc)

-- the longest front of characters that mean themselves is written as its own bytes, before what is left
pub left_run : (rest plain after : List ℕ) → IsUtf8 plain
    → IsSpan is_plain_inside (chars rest) (chars plain) (chars after)
    → left_bytes (chars rest) ≡ plain ++ left_bytes (chars after)
left_run rest plain after utf8 span =
    rw (span.spelled, left_plain (chars plain) (chars after) span.pass, encodes-chars plain utf8)

-- a backslash after a row of them is one before them
row_moved : (n : ℕ) (bytes : List ℕ) → row backslash n ++ backslash ∷ bytes ≡ backslash ∷ (row backslash n ++ bytes)
row_moved zero bytes = refl
row_moved (suc n) bytes = ap (λ bs. backslash ∷ bs) (row_moved n bytes)

-- a row of backslashes is written twice, before what is left
row_written : (n : ℕ) (cs : List ℕ)
    → left_bytes (row backslash n ++ cs) ≡ row backslash n ++ (row backslash n ++ left_bytes cs)
row_written zero cs = refl
row_written (suc n) cs =
    rw (
      left_one backslash (row backslash n ++ cs),
      row_written n cs,
      row_moved n (row backslash n ++ left_bytes cs),
      escaped_bytes backslash refl,
      encode_ascii backslash (omega arith),
    ) refl

-- the backslashes at the front of what is left are written twice, before the others
pub left_row : (rest : List ℕ) (n : ℕ) {front after : List ℕ} → IsUtf8 rest
    → n ≡ prefix_len (λ b. b == backslash) rest → front ≡ take n rest → after ≡ drop n rest
    → left_bytes (chars rest) ≡ front ++ (front ++ left_bytes (chars after))
left_row rest n utf8 is f a =
    let cut = cut_row backslash n rest (omega arith) utf8 (omega (arith, is)) in
    rw (f, a, cut.own, cut.characters) (row_written n (chars (drop n rest)))

-- where no character is left, the end of the line is
pub left_none : (rest : List ℕ) → length rest ≡ 0 → left_bytes (chars rest) ≡ double_quote ∷ line_feed ∷ []
unfolding encode chars
left_none [] none = refl
left_none (b ∷ rest) none = absurd (omega arith)

-- pairs by their characters
abbrev pub texts : List (List ℕ × List ℕ) → List (List ℕ × List ℕ)
texts = map (λ p. (chars p.0, chars p.1))

-- the first of the pairs that are left is written before the others, where the code holds its texts
pub first_bytes : {key value key' value' : List ℕ} {rest pairs : List (List ℕ × List ℕ)} → key' ≡ key →
    value' ≡ value → pairs ≡ (key, value) ∷ rest →
    written_bytes (texts pairs) ≡ written_bytes ((chars key', chars value') ∷ []) ++ written_bytes (texts rest)
first_bytes {key = key} {value = value} {rest = rest} k v first =
    let pair = written_pair (chars key, chars value) in
    rw (first, k, v, append-nil pair) (encodes-append pair (written_text (texts rest)))

-- what the push of a pair is proved from
pub ruleset written_steps = (pair_bytes, left_len, left_next, left_run, left_none, escaped_bytes, length-append, append_assoc)
