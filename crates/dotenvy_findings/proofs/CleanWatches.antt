-- Watches that find no bad byte are over text.
use Rattle.std.proofs.Common.{◌≡◌, ℕ, ◌+◌, ◌-◌, ◌*◌, ◌<◌, ◌≤◌, ◌/◌, ◌%◌, Bool, true, false, not, List, [], ◌∷◌}
use Rattle.std.proofs.Common.{◌++◌, refl, sym, ap, arith, subst, ⊎_elim, le-ltb, lt-ltb, length}
use Rattle.std.proofs.Common.{append-nil, append_assoc, length-append}
use Rattle.std.specs.Prelude.{◌==◌, ◌&&◌, if◌then◌else◌, Option, Some, None}
use Rattle.std.specs.Str.{IsUtf8}
use Rattle.std.specs.Char.{encode_utf8, IsScalar}
use Rattle.std.proofs.lemmas.Bool.{cases_lt}
use Rattle.std.proofs.lemmas.Bool.Decides.{nat_tests}
use Rattle.std.proofs.lemmas.Str.{IsUtf8-append, IsUtf8-encode, IsUtf8-nil, encode_ascii}
use Rattle.dotenvy_format.specs.Characters.{line_feed}
use Rattle.dotenvy_findings.specs.declared.bytes.BadByte.{BadByte}
use Rattle.dotenvy_findings.specs.declared.bytes.ByteCursor.{ByteCursor}
use Rattle.dotenvy_findings.specs.declared.bytes.CharacterPart.{CharacterPart}
use Rattle.dotenvy_findings.specs.declared.bytes.CharacterPart.TheVariants.{AllButOne, AllButTwo}
use Rattle.dotenvy_findings.specs.declared.bytes.CharacterPart.TheVariants.{First, NoText, Nothing}
use Rattle.dotenvy_findings.specs.declared.bytes.MarkPart.{MarkPart}
use Rattle.dotenvy_findings.specs.declared.place.Place.{Place}
use Rattle.dotenvy_findings.specs.Bytes.{Watch, bad_at_end, bad_before, bad_here, bad_in, fresh, is_continuation}
use Rattle.dotenvy_findings.specs.Bytes.{is_second, part_after, part_behind, skips, stepped, watched}
use Rattle.dotenvy_findings.specs.Bytes.{with_bad, with_end}

-- a character of two bytes
two_utf8 : (b c : ℕ) → b < 0xE0 → is_second b c ≡ true → IsUtf8 (b ∷ c ∷ [])
unfolding encode_utf8
two_utf8 b c high second =
    let range : (0xC2 ≤ b) × (0x80 ≤ c) × (c < 0xC0) =
    (grind (arith, nat_tests), grind (arith, nat_tests), grind (arith, nat_tests)) in
    let x = (b - 0xC0) * 64 + (c - 0x80) in
    let is : IsScalar x = grind (arith, nat_tests) in
    let first : 192 + x / 64 ≡ b = omega arith in
    let last : 128 + x % 64 ≡ c = omega arith in
    let spelled : encode_utf8 x ≡ b ∷ c ∷ [] =
    rw (le-ltb x 128 (omega arith), lt-ltb x 2048 (omega arith), first, last) refl in
    subst IsUtf8 spelled (IsUtf8-encode x is)

-- a character of three bytes
three_utf8 : (b c d : ℕ) → 0xE0 ≤ b → b < 0xF0 → is_second b c ≡ true → is_continuation d ≡ true →
    IsUtf8 (b ∷ c ∷ d ∷ [])
unfolding encode_utf8
three_utf8 b c d low high second third =
    let range : (0x80 ≤ c) × (c < 0xC0) × (0x80 ≤ d) × (d < 0xC0) =
    (grind (arith, nat_tests), grind (arith, nat_tests), grind (arith, nat_tests), grind (arith, nat_tests)) in
    let narrow : (b ≡ 0xE0 → 0xA0 ≤ c) × (b ≡ 0xED → c < 0xA0) =
    (λ e. grind (arith, nat_tests), λ e. grind (arith, nat_tests)) in
    let x = ((b - 0xE0) * 64 + (c - 0x80)) * 64 + (d - 0x80) in
    let bounds : (2048 ≤ x) × (x < 65536) × (55296 ≤ x → 57344 ≤ x) = (grind arith, omega arith, λ h. grind arith) in
    let is : IsScalar x = grind (arith, nat_tests) in
    let first : 224 + x / 4096 ≡ b = omega arith in
    let middle : 128 + (x / 64) % 64 ≡ c = omega arith in
    let last : 128 + x % 64 ≡ d = omega arith in
    let spelled : encode_utf8 x ≡ b ∷ c ∷ d ∷ [] =
    rw (le-ltb x 128 (omega arith), le-ltb x 2048 (omega arith), lt-ltb x 65536 (omega arith), first, middle, last)
    refl in
    subst IsUtf8 spelled (IsUtf8-encode x is)

-- a character of four bytes
four_utf8 : (b c d e : ℕ) → 0xF0 ≤ b → is_second b c ≡ true → is_continuation d ≡ true →
    is_continuation e ≡ true → IsUtf8 (b ∷ c ∷ d ∷ e ∷ [])
unfolding encode_utf8
four_utf8 b c d e low second third fourth =
    let range : (b ≤ 0xF4) × (0x80 ≤ c) × (c < 0xC0) × (0x80 ≤ d) × (d < 0xC0) × (0x80 ≤ e) × (e < 0xC0) = (
      grind (arith, nat_tests),
      grind (arith, nat_tests),
      grind (arith, nat_tests),
      grind (arith, nat_tests),
      grind (arith, nat_tests),
      grind (arith, nat_tests),
      grind (arith, nat_tests),
    ) in
    let narrow : (b ≡ 0xF0 → 0x90 ≤ c) × (b ≡ 0xF4 → c < 0x90) =
    (λ h. grind (arith, nat_tests), λ h. grind (arith, nat_tests)) in
    let x = (((b - 0xF0) * 64 + (c - 0x80)) * 64 + (d - 0x80)) * 64 + (e - 0x80) in
    let bounds : (65536 ≤ x) × (x < 1114112) = (grind arith, grind arith) in
    let is : IsScalar x = grind (arith, nat_tests) in
    let first : 240 + x / 262144 ≡ b = omega arith in
    let next : 128 + (x / 4096) % 64 ≡ c = omega arith in
    let middle : 128 + (x / 64) % 64 ≡ d = omega arith in
    let last : 128 + x % 64 ≡ e = omega arith in
    let wide = le-ltb x 65536 (omega arith) in
    let spelled : encode_utf8 x ≡ b ∷ c ∷ d ∷ e ∷ [] =
    rw (le-ltb x 128 (omega arith), le-ltb x 2048 (omega arith), wide, first, next, middle, last) refl in
    subst IsUtf8 spelled (IsUtf8-encode x is)

-- these bytes are text but for what of the last character is to come
abbrev Behind : CharacterPart → List ℕ → Type 0
Behind Nothing seen = IsUtf8 seen
Behind (First first) seen = ⊥
Behind AllButOne seen = (d : ℕ) → is_continuation d ≡ true → IsUtf8 (seen ++ d ∷ [])
Behind AllButTwo seen =
    (d e : ℕ) → is_continuation d ≡ true → is_continuation e ≡ true → IsUtf8 ((seen ++ d ∷ []) ++ e ∷ [])
Behind NoText seen = ⊥

-- the same, also where only the first byte of the last character was read
abbrev Begun : CharacterPart → List ℕ → Type 0
Begun Nothing seen = Behind Nothing seen
Begun (First first) seen = (d : ℕ) → is_second first d ≡ true → Behind (part_behind first) (seen ++ d ∷ [])
Begun AllButOne seen = Behind AllButOne seen
Begun AllButTwo seen = Behind AllButTwo seen
Begun NoText seen = ⊥

behind_begun : (part : CharacterPart) (seen : List ℕ) → Behind part seen → Begun part seen
behind_begun Nothing seen h = h
behind_begun (First first) seen h = absurd h
behind_begun AllButOne seen h = h
behind_begun AllButTwo seen h = h
behind_begun NoText seen h = absurd h

live : (part : CharacterPart) (seen : List ℕ) → Begun part seen → skips part ≡ false
live Nothing seen h = refl
live (First first) seen h = refl
live AllButOne seen h = refl
live AllButTwo seen h = refl
live NoText seen h = absurd h

-- a first byte behind text
first_begun : (seen : List ℕ) (b : ℕ) → IsUtf8 seen → Begun (First b) (seen ++ b ∷ [])
first_begun seen b utf8 d second =
    let Goes : CharacterPart → Type 0 = λ part. Behind part ((seen ++ b ∷ []) ++ d ∷ []) in
    ⊎_elim
    (λ two.
    let is : Nothing ≡ part_behind b = rw (lt-ltb b 0xE0 two) refl in
    subst Goes is
    (subst IsUtf8 (sym (append_assoc seen (b ∷ []) (d ∷ [])))
    (IsUtf8-append seen (b ∷ d ∷ []) utf8 (two_utf8 b d two second))))
    (λ more.
    ⊎_elim
    (λ three.
    let is : AllButOne ≡ part_behind b = rw (le-ltb b 0xE0 more, lt-ltb b 0xF0 three) refl in
    let goes : Goes AllButOne = λ e third.
    subst IsUtf8 (rw (append_assoc, append_assoc) refl)
    (IsUtf8-append seen (b ∷ d ∷ e ∷ []) utf8 (three_utf8 b d e more three second third)) in
    subst Goes is goes)
    (λ four.
    let is : AllButTwo ≡ part_behind b = rw (le-ltb b 0xE0 more, le-ltb b 0xF0 four) refl in
    let goes : Goes AllButTwo = λ e f third fourth.
    subst IsUtf8 (rw (append_assoc, append_assoc, append_assoc) refl)
    (IsUtf8-append seen (b ∷ d ∷ e ∷ f ∷ []) utf8 (four_utf8 b d e f four second third fourth)) in
    subst Goes is goes)
    (cases_lt b 0xF0))
    (cases_lt b 0xE0)

-- a later byte, if it is one
later_begun : (goes : Bool) (next : CharacterPart) (seen : List ℕ) → (goes ≡ true → Behind next seen) →
    skips (if goes then next else NoText) ≡ false → Begun (if goes then next else NoText) seen
later_begun true next seen begun h = behind_begun next seen (begun refl)
later_begun false next seen begun h = absurd cc

-- one more byte, if it belongs to a character
advance : (part : CharacterPart) (b : ℕ) (seen : List ℕ) → Begun part seen → skips (part_after part b) ≡ false →
    Begun (part_after part b) (seen ++ b ∷ [])
advance Nothing b seen begun h =
    let Goes : CharacterPart → Type 0 = λ part. Begun part (seen ++ b ∷ []) in
    ⊎_elim
    (λ low.
    let is : Nothing ≡ part_after Nothing b = rw (lt-ltb b 128 low) refl in
    let one : IsUtf8 (b ∷ []) = subst IsUtf8 (encode_ascii b low) (IsUtf8-encode b (grind (arith, nat_tests))) in
    subst Goes is (IsUtf8-append seen (b ∷ []) begun one))
    (λ high.
    let is : First b ≡ part_after Nothing b = rw (le-ltb b 128 high) refl in
    subst Goes is (first_begun seen b begun))
    (cases_lt b 128)
advance (First first) b seen begun h =
    later_begun (is_second first b) (part_behind first) (seen ++ b ∷ []) (begun b) h
advance AllButOne b seen begun h = later_begun (is_continuation b) Nothing (seen ++ b ∷ []) (begun b) h
advance AllButTwo b seen begun h =
    later_begun (is_continuation b) AllButOne (seen ++ b ∷ []) (λ third e fourth. begun b e third fourth) h
advance NoText b seen begun h = absurd begun

-- behind a line feed there is nothing of a character
line_feed_part : (part : CharacterPart) → skips (part_after part line_feed) ≡ false →
    Nothing ≡ part_after part line_feed
line_feed_part Nothing h = refl
line_feed_part (First first) h =
    let none : is_second first line_feed ≡ false = grind (arith, nat_tests) in
    let skipped : skips (if false then part_behind first else NoText) ≡ false = rw none at h in
    absurd cc
line_feed_part AllButOne h = absurd cc
line_feed_part AllButTwo h = absurd cc
line_feed_part NoText h = absurd cc

-- the part behind one more byte
part_is : (place : Place) (part : CharacterPart) (mark : MarkPart) (found : List BadByte) (b : ℕ) (ends : Bool) →
    (b == line_feed) ≡ ends → (ends ≡ true → b ≡ line_feed) → skips (part_after part b) ≡ false →
    (stepped (record { cursor = record { place = place; part = part; mark = mark }; found = found }) b).cursor.part
    ≡ part_after part b
part_is place part mark found b true is same h =
    let at : b ≡ line_feed = same refl in
    rw is (rw at (line_feed_part part (rw at at h)))
part_is place part mark found b false is same h = rw is refl

-- where nothing is found with a bad byte, there is none
kept : (bad : Option BadByte) (watch : Watch) → (with_bad bad watch).found ≡ [] →
    (watch.found ≡ []) × (bad ≡ None)
kept None watch h = (h, refl)
kept (Some bad) watch h =
    let size = ap length h in
    absurd (omega (arith, size, length-append watch.found (bad ∷ [])))

-- what was found stays
found_stays : (bytes : List ℕ) (watch : Watch) → (watched watch bytes).found ≡ [] → watch.found ≡ []
found_stays [] watch h = h
found_stays (b ∷ bytes) watch h =
    (kept (bad_before watch.cursor b) watch (found_stays bytes (stepped watch b) h)).0

if_none : (b : Bool) (x : BadByte) → (if b then Some x else None) ≡ None → b ≡ false
if_none true x h = absurd cc
if_none false x h = refl

not_first : (a b : Bool) → a && not b ≡ false → b ≡ false → a ≡ false
not_first true true h k = absurd cc
not_first true false h k = absurd cc
not_first false b h k = refl

-- at the end nothing of a character was read
ended : (cursor : ByteCursor) (part : CharacterPart) (seen : List ℕ) → Begun part seen → bad_in cursor part ≡ None →
    IsUtf8 (seen ++ [])
ended cursor Nothing seen begun h = subst IsUtf8 (sym (append-nil seen)) begun
ended cursor (First first) seen begun h = absurd cc
ended cursor AllButOne seen begun h = absurd cc
ended cursor AllButTwo seen begun h = absurd cc
ended cursor NoText seen begun h = absurd begun

-- where nothing is found, what was seen and what is left are text
sound : (file : List ℕ) (watch : Watch) (seen : List ℕ) → Begun watch.cursor.part seen →
    (with_end (watched watch file)).found ≡ [] → IsUtf8 (seen ++ file)
sound [] watch seen begun h =
    let none = (kept (bad_at_end watch.cursor) watch h).1 in
    ended watch.cursor watch.cursor.part seen begun none
sound (b ∷ file) watch seen begun h =
    let cursor = watch.cursor in
    let later = (kept (bad_at_end (watched watch (b ∷ file)).cursor) (watched watch (b ∷ file)) h).0 in
    let none = (kept (bad_before cursor b) watch (found_stays file (stepped watch b) later)).1 in
    let goes_on : skips (part_after cursor.part b) ≡ false =
    not_first (skips (part_after cursor.part b)) (skips cursor.part)
    (if_none (skips (part_after cursor.part b) && not (skips cursor.part)) (bad_here cursor (Some b)) none)
    (live cursor.part seen begun) in
    let next = part_is cursor.place cursor.part cursor.mark watch.found b (b == line_feed) refl
    (λ is. grind (arith, nat_tests, is)) goes_on in
    subst IsUtf8 (append_assoc seen (b ∷ []) file)
    (sound file (stepped watch b) (seen ++ b ∷ [])
    (subst (λ part. Begun part (seen ++ b ∷ [])) (sym next) (advance cursor.part b seen begun goes_on)) h)

-- a file in which no byte is found is UTF-8
pub others_have_one : (file : List ℕ) → (with_end (watched fresh file)).found ≡ [] → IsUtf8 file
others_have_one file h = sound file fresh [] IsUtf8-nil h
