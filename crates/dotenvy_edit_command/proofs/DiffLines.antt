-- The lines of a text, and where two lists of lines are the same.
use Rattle.std.proofs.Common.{◌≡◌, ◌≢◌, ◌<◌, ◌≤◌, ◌+◌, ◌-◌, ◌==◌, ℕ, suc, zero, Bool, true, false, List, [], ◌∷◌, ◌++◌}
use Rattle.std.proofs.Common.{Some, None, ap, append-nil, append_assoc, arith, drop, get_or, length, min, refl}
use Rattle.std.proofs.Common.{rules, sym, take, ◌∙◌}
use Rattle.std.specs.Borrow.{Bor}
use Rattle.std.proofs.Math.ListN.{get_or-map}
use Rattle.std.proofs.lemmas.List.{drop-map, drop_more, length-drop, length-map, length-take-le}
use Rattle.std.proofs.lemmas.List.{map_push, take-append-drop, take-map, take_more}
use Rattle.memchr.specs.Find.{IsFirstByte, is_byte}
use Rattle.dotenvy_edit_command.specs.Diffs.{IsContext, IsHunkOf, Text, feed, lines_of, texts, with_byte}

false_unless : (b : Bool) → ¬ (b ≡ true) → b ≡ false
false_unless true denied = absurd (denied refl)
false_unless false denied = refl

-- a line feed is a line, before others
feed_first : (byte : ℕ) (lines : List Text) → (byte == feed) ≡ true →
    with_byte byte lines ≡ (byte ∷ []) ∷ lines
feed_first byte [] is = refl
feed_first byte (line ∷ lines) is = rw is refl

-- the first line of bytes ends at their first line feed
cut_line : (bytes : List ℕ) (at : ℕ) → at < length bytes → ((k : ℕ) → k < at → (get_or bytes k 0 == feed) ≡ false) →
    (get_or bytes at 0 == feed) ≡ true → lines_of bytes ≡ take (suc at) bytes ∷ lines_of (drop (suc at) bytes)
cut_line [] at inside before is = absurd (omega (arith, inside))
cut_line (byte ∷ bytes) zero inside before is = feed_first byte (lines_of bytes) is
cut_line (byte ∷ bytes) (suc at) inside before is =
    let not : (byte == feed) ≡ false = before 0 (omega arith) in
    let rest = cut_line bytes at (omega (arith, inside)) (λ k lt. before (suc k) (omega (arith, lt))) is in
    rw rest (rw not refl)

-- bytes without a line feed are one line
whole_line : (bytes : List ℕ) → bytes ≢ [] → ((k : ℕ) → k < length bytes → (get_or bytes k 0 == feed) ≡ false) →
    lines_of bytes ≡ bytes ∷ []
whole_line [] some none = absurd (some refl)
whole_line (byte ∷ []) some none = refl
whole_line (byte ∷ next ∷ bytes) some none =
    let not : (byte == feed) ≡ false = none 0 (omega arith) in
    let rest = whole_line (next ∷ bytes) (search rules) (λ k lt. none (suc k) (omega (arith, lt))) in
    rw rest (rw not refl)

-- the lines so far, with one more, and those of what is left
pub line_added : (lines : List (Bor Text)) (line : Bor Text) (rest left all : List ℕ) (at : ℕ) →
    IsFirstByte (is_byte 10) rest (Some at) → line.now ≡ take (at + 1) rest → left ≡ drop (at + 1) rest →
    texts lines ++ lines_of rest ≡ lines_of all → texts (lines ++ line ∷ []) ++ lines_of left ≡ lines_of all
line_added lines line rest left all at first is lefts before =
    let cut : lines_of rest ≡ take (suc at) rest ∷ lines_of (drop (suc at) rest) =
    cut_line rest at first.0.high (λ k lt. false_unless (get_or rest k 0 == 10) (first.0.before k (omega arith) lt))
    first.1 in
    let next : at + 1 ≡ suc at = omega arith in
    rw (map_push _ lines line, lefts, append_assoc, is, next, ← cut) before

-- the lines so far, and the last one
pub last_line : (lines : List (Bor Text)) (line : Bor Text) (all : List ℕ) →
    IsFirstByte (is_byte 10) line.now None → line.now ≢ [] → texts lines ++ lines_of line.now ≡ lines_of all →
    texts (lines ++ line ∷ []) ≡ lines_of all
last_line lines line all none some before =
    let whole = whole_line line.now some (λ k lt. false_unless (get_or line.now k 0 == 10) (none k (omega arith) lt)) in
    map_push _ lines line ∙ (rw whole at before)

-- the lines so far, and no more
pub no_line : (lines : List (Bor Text)) (rest all : List ℕ) → rest ≡ [] →
    texts lines ++ lines_of rest ≡ lines_of all → texts lines ≡ lines_of all
no_line lines rest all empty before = sym (append-nil (texts lines)) ∙ (rw empty at before)

-- one line more, from the front
texts_take : (lines : List (Bor Text)) (n : ℕ) (d : Bor Text) → n < length lines →
    take (n + 1) (texts lines) ≡ take n (texts lines) ++ (get_or lines n d).now ∷ []
texts_take lines n d inside =
    let inside_texts : n < length (texts lines) = omega (arith, inside, length-map lines (λ (l : Bor Text). l.now)) in
    take_more (texts lines) n d.now inside_texts
    ∙ ap (λ text. take n (texts lines) ++ text ∷ []) (get_or-map (λ (l : Bor Text). l.now) lines n d)

-- one line more, from the back
texts_drop : (lines : List (Bor Text)) (n : ℕ) (d : Bor Text) → n < length lines →
    drop n (texts lines) ≡ (get_or lines n d).now ∷ drop (n + 1) (texts lines)
texts_drop lines n d inside =
    let inside_texts : n < length (texts lines) = omega (arith, inside, length-map lines (λ (l : Bor Text). l.now)) in
    drop_more (texts lines) n d.now inside_texts
    ∙ ap (λ text. text ∷ drop (n + 1) (texts lines)) (get_or-map (λ (l : Bor Text). l.now) lines n d)

-- lines that are the same up to a place, and there, are the same up to the next place
pub front_next : (old new : List (Bor Text)) (n : ℕ) (d e : Bor Text) → n < length old → n < length new →
    (get_or old n d).now ≡ (get_or new n e).now → take n (texts old) ≡ take n (texts new) →
    take (n + 1) (texts old) ≡ take (n + 1) (texts new)
front_next old new n d e in_old in_new same front =
    rw (texts_take old n d in_old, texts_take new n e in_new, front, same) refl

-- lines that are the same from places on, and before these, are the same from the places before on
pub back_next : (old new : List (Bor Text)) (n : ℕ) (d e : Bor Text) → n < length old → n < length new →
    (get_or old (length old - 1 - n) d).now ≡ (get_or new (length new - 1 - n) e).now →
    drop (length old - n) (texts old) ≡ drop (length new - n) (texts new) →
    drop (length old - (n + 1)) (texts old) ≡ drop (length new - (n + 1)) (texts new)
back_next old new n d e in_old in_new same back =
    let old_at : length old - (n + 1) ≡ length old - 1 - n = omega arith in
    let new_at : length new - (n + 1) ≡ length new - 1 - n = omega arith in
    let old_next : (length old - 1 - n) + 1 ≡ length old - n = omega (arith, in_old) in
    let new_next : (length new - 1 - n) + 1 ≡ length new - n = omega (arith, in_new) in
    let of_old = texts_drop old (length old - 1 - n) d (omega (arith, in_old)) in
    let of_new = texts_drop new (length new - 1 - n) e (omega (arith, in_new)) in
    rw (old_at, new_at, of_old, of_new, old_next, new_next, same, back) refl

-- the lines of a hunk, of texts that have the first lines and the last ones in common
hunk_of : (old new : List Text) (front removed added before shown : ℕ) → take front old ≡ take front new →
    drop removed (drop front old) ≡ drop added (drop front new) →
    IsContext (drop before (take front old)) (take before (take front old)) →
    IsContext (take shown (drop removed (drop front old))) (drop shown (drop removed (drop front old))) →
    IsHunkOf old new (record {
      before = take before (take front old);
      lead = drop before (take front old);
      removed = take removed (drop front old);
      added = take added (drop front new);
      trail = take shown (drop removed (drop front old));
      after = drop shown (drop removed (drop front old));
    })
hunk_of old new front removed added before shown same_front same_back lead trail =
    let tail = take-append-drop shown (drop removed (drop front old)) in
    let old_rest = take-append-drop removed (drop front old) in
    let new_rest = take-append-drop added (drop front new) in
    let head = take-append-drop before (take front old) in
    record {
      is_old = rw (
        tail,
        old_rest,
        ← append_assoc (take before (take front old)) (drop before (take front old)) (drop front old),
        head,
      ) (take-append-drop front old);
      is_new = rw (
        tail,
        same_back,
        new_rest,
        ← append_assoc (take before (take front old)) (drop before (take front old)) (drop front new),
        head,
        same_front,
      )
          (take-append-drop front new);
      lead = lead;
      trail = trail;
    }

-- the last three of the lines before a hunk are shown
lead_shown : (lines : List Text) (before : ℕ) → before ≡ length lines - min (length lines) 3 →
    IsContext (drop before lines) (take before lines)
lead_shown lines zero is = (omega (arith, is), λ some. absurd (some refl))
lead_shown lines (suc before) is =
    let shown = length-drop (suc before) lines in
    (omega (arith, is, shown), λ some. omega (arith, is, shown))

-- the first three of the lines after a hunk are shown
trail_shown : (lines : List Text) (shown : ℕ) → shown ≡ min (length lines) 3 →
    IsContext (take shown lines) (drop shown lines)
trail_shown [] shown is = rw is (omega arith, λ some. absurd (some refl))
trail_shown (line ∷ []) shown is = rw is (omega arith, λ some. absurd (some refl))
trail_shown (line ∷ second ∷ []) shown is = rw is (omega arith, λ some. absurd (some refl))
trail_shown (line ∷ second ∷ third ∷ lines) shown is =
    let three : shown ≡ 3 = omega (arith, is) in
    rw three (omega arith, λ some. refl)

-- the lines of a hunk, as the code cuts them
pub hunk_cut : (old new : List (Bor Text)) (front removed added before shown : ℕ) → front ≤ length old →
    take front (texts old) ≡ take front (texts new) →
    drop removed (texts (drop front old)) ≡ drop added (texts (drop front new)) →
    before ≡ front - min front 3 → shown ≡ min (length old - front - removed) 3 →
    IsHunkOf (texts old) (texts new) (record {
      before = texts (take before (take front old));
      lead = texts (drop before (take front old));
      removed = texts (take removed (drop front old));
      added = texts (take added (drop front new));
      trail = texts (take shown (drop removed (drop front old)));
      after = texts (drop shown (drop removed (drop front old)));
    })
hunk_cut old new front removed added before shown inside same_front same_back lead trail =
    let now = λ (line : Bor Text). line.now in
    let front_is = take-map now front old in
    let old_rest = drop-map now front old in
    let new_rest = drop-map now front new in
    let tail = drop-map now removed (drop front old) in
    let count : length (take front (texts old)) ≡ front =
    length-take-le front (texts old) (omega (arith, inside, length-map old now)) in
    let rest : length (drop removed (drop front (texts old))) ≡ length old - front - removed =
    omega (arith, length-drop removed (drop front (texts old)), length-drop front (texts old), length-map old now) in
    rw (
      ← take-map now before (take front old),
      ← drop-map now before (take front old),
      ← take-map now removed (drop front old),
      ← take-map now added (drop front new),
      ← take-map now shown (drop removed (drop front old)),
      ← drop-map now shown (drop removed (drop front old)),
      ← tail,
      ← front_is,
      ← old_rest,
      ← new_rest,
    )
    (hunk_of (texts old) (texts new) front removed added before shown same_front
    (rw (old_rest, new_rest) same_back)
    (lead_shown (take front (texts old)) before (rw count lead))
    (trail_shown (drop removed (drop front (texts old))) shown (rw rest trail)))

-- what is appended in parts, one after another
pub parts_pushed : (text one two three four all : Text) (head lead removed added trail : Text) → one ≡ text ++ head →
    two ≡ one ++ lead → three ≡ two ++ removed → four ≡ three ++ added → all ≡ four ++ trail →
    all ≡ text ++ (head ++ (lead ++ (removed ++ (added ++ trail))))
parts_pushed text one two three four all head lead removed added trail first second third fourth fifth =
    rw (
      fifth,
      fourth,
      third,
      second,
      first,
      append_assoc (((text ++ head) ++ lead) ++ removed) added trail,
      append_assoc ((text ++ head) ++ lead) removed (added ++ trail),
      append_assoc (text ++ head) lead (removed ++ (added ++ trail)),
      append_assoc text head (lead ++ (removed ++ (added ++ trail))),
    )
    refl

-- how many lines come before a hunk
pub count_before : (old : List (Bor Text)) (front before : ℕ) → front ≤ length old → before ≤ front →
    length (texts (take before (take front old))) ≡ before
count_before old front before inside few =
    let front_count = length-take-le front old inside in
    let count = length-take-le before (take front old) (omega (arith, front_count, few)) in
    length-map (take before (take front old)) (λ (line : Bor Text). line.now) ∙ count

-- how many lines a hunk shows
pub count_shown : (lead changed trail : List (Bor Text)) →
    length (texts lead) + (length (texts changed) + length (texts trail)) ≡ length lead + length trail + length changed
count_shown lead changed trail =
    let now = λ (line : Bor Text). line.now in
    omega (arith, length-map lead now, length-map changed now, length-map trail now)
