-- Watches over bytes for comments that allow kinds.
use Rattle.std.proofs.Common.{◌≡◌, ℕ, ◌+◌, ◌<◌, Bool, true, false, not, List, [], ◌∷◌, ◌++◌, map}
use Rattle.std.proofs.Common.{length, get_or, take, drop, refl, sym, ap, ◌∙◌, arith, append_assoc}
use Rattle.std.specs.Prelude.{if◌then◌else◌, ◌==◌, None, Some}
use Rattle.std.specs.List.{onto_first, prefix_len}
use Rattle.std.proofs.lemmas.Bool.{and_parts, eqb-true, eqb-false, ne_eqb}
use Rattle.std.proofs.lemmas.List.{append-nil, drop_more, map_push, take-append-drop, take_all}
use Rattle.std.proofs.lemmas.List.Splits.{slice_split-cons_no, slice_split-cons_yes}
use Rattle.memchr.specs.Find.{IsFirstByte, is_byte}
use Rattle.dotenvy_format.specs.Characters.{hash, line_feed}
use Rattle.dotenvy_format.specs.Marks.{without_mark}
use Rattle.dotenvy_format.specs.PhysicalLines.{no_line_feed}
use Rattle.dotenvy_format.proofs.bytes.ByteRuns.{run_to_byte}
use Rattle.dotenvy_findings.specs.declared.comments.AllowComment.{AllowComment}
use Rattle.dotenvy_findings.specs.declared.kind.Kind.{Kind}
use Rattle.dotenvy_findings.specs.Comments.{Allow, Comment, MarkFirst, MarkSecond, Other, Part, Start, Watch, White}
use Rattle.dotenvy_findings.specs.Comments.{allow, allow_comments, allow_of, allows_from, fresh, is_open}
use Rattle.dotenvy_findings.specs.Comments.{is_white, line_kinds, lines, listed, next_line, part_after, part_kinds}
use Rattle.dotenvy_findings.specs.Comments.{stepped, watched, with_end, with_rest}
use Rattle.dotenvy_findings.specs.Places.{one_more}
use Rattle.dotenvy_findings.proofs.Watches.{line_has_none}

-- to watch two parts one after the other is to watch both in one
pub parts_join : (watch : Watch) (first second : List ℕ) →
    watched watch (first ++ second) ≡ watched (watched watch first) second
parts_join watch [] second = refl
parts_join watch (byte ∷ first) second = parts_join (stepped watch byte) first second

is_false : (b : Bool) → not b ≡ true → b ≡ false
is_false true h = absurd cc
is_false false h = refl

-- a watch that has read this of a line
abbrev pub at : ℕ → Part → List Allow → Watch
at line part found = record { line = line; part = part; found = found }

-- the rest of a line is skipped
pub other_stays : (line : ℕ) (found : List Allow) (bytes : List ℕ) → no_line_feed bytes ≡ true →
    watched (at line Other found) bytes ≡ at line Other found
other_stays line found [] none = refl
other_stays line found (byte ∷ bytes) none =
    let parts = and_parts (not (byte == line_feed)) (no_line_feed bytes) none in
    rw (is_false (byte == line_feed) parts.0) (other_stays line found bytes parts.1)

-- the rest of a comment is kept
pub comment_grows : (line : ℕ) (found : List Allow) (text bytes : List ℕ) → no_line_feed bytes ≡ true →
    watched (at line (Comment text) found) bytes ≡ at line (Comment (text ++ bytes)) found
comment_grows line found text [] none = ap (λ all. at line (Comment all) found) (sym (append-nil text))
comment_grows line found text (byte ∷ bytes) none =
    let parts = and_parts (not (byte == line_feed)) (no_line_feed bytes) none in
    let all = comment_grows line found (text ++ byte ∷ []) bytes parts.1 in
    rw (is_false (byte == line_feed) parts.0)
    (all ∙ ap (λ whole. at line (Comment whole) found) (append_assoc text (byte ∷ []) bytes))

rest_of : (part : Part) (line : ℕ) (found : List Allow) (bytes : List ℕ) → no_line_feed bytes ≡ true →
    is_open part ≡ false → at line (with_rest bytes part) found ≡ watched (at line part found) bytes
rest_of Start line found bytes none decided = absurd cc
rest_of MarkFirst line found bytes none decided = absurd cc
rest_of MarkSecond line found bytes none decided = absurd cc
rest_of White line found bytes none decided = absurd cc
rest_of (Comment text) line found bytes none decided = sym (comment_grows line found text bytes none)
rest_of Other line found bytes none decided = sym (other_stays line found bytes none)

-- the rest of a line, where it decides nothing
pub ends_line : {whole : Watch} (watch : Watch) (part : Part) (rest : List ℕ) → is_open watch.part ≡ false →
    no_line_feed rest ≡ true → part ≡ with_rest rest watch.part → watched watch rest ≡ whole →
    record watch { part = part } ≡ whole
ends_line watch part rest decided none kept before =
    ap (λ p. at watch.line p watch.found) kept ∙ rest_of watch.part watch.line watch.found rest none decided ∙ before

-- one more byte of a line
pub line_step : {whole : Watch} (watch : Watch) (part : Part) (byte : ℕ) (bytes rest : List ℕ) → rest ≡ byte ∷ bytes →
    part ≡ part_after watch.part byte → no_line_feed rest ≡ true → watched watch rest ≡ whole →
    (no_line_feed bytes ≡ true) × (watched (record watch { part = part }) bytes ≡ whole)
line_step watch part byte bytes rest begins after none before =
    let inside = and_parts (not (byte == line_feed)) (no_line_feed bytes) (rw begins at none) in
    let step : watched watch (byte ∷ bytes) ≡ watched (record watch { part = part_after watch.part byte }) bytes =
    rw (is_false (byte == line_feed) inside.0) refl in
    (inside.1, rw after (sym step ∙ rw begins at before))

-- where a search finds no line feed, there is none
pub no_feed : (bytes : List ℕ) → IsFirstByte (is_byte line_feed) bytes None → no_line_feed bytes ≡ true
no_feed bytes none =
    let all : length bytes ≡ prefix_len (λ b. not (b == line_feed)) bytes =
    run_to_byte (is_byte line_feed) bytes None none in
    let front : no_line_feed (take (length bytes) bytes) ≡ true = rw all (line_has_none bytes) in
    rw (take_all (length bytes) bytes (omega arith)) at front

-- where a search finds the first line feed, none stands before it
pub none_before : (bytes : List ℕ) (n : ℕ) → IsFirstByte (is_byte line_feed) bytes (Some n) →
    no_line_feed (take n bytes) ≡ true
none_before bytes n found =
    let place : n ≡ prefix_len (λ b. not (b == line_feed)) bytes =
    run_to_byte (is_byte line_feed) bytes (Some n) found in
    rw place (line_has_none bytes)

-- there the bytes are a line, its line feed, and the rest
cut_at : (bytes : List ℕ) (n : ℕ) → IsFirstByte (is_byte line_feed) bytes (Some n) →
    bytes ≡ take n bytes ++ line_feed ∷ drop (n + 1) bytes
cut_at bytes n found =
    let feed : get_or bytes n 0 ≡ line_feed = eqb-true (get_or bytes n 0) line_feed found.1 in
    sym (take-append-drop n bytes)
    ∙ ap (λ back. take n bytes ++ back)
    (drop_more bytes n 0 found.0.high ∙ ap (λ byte. byte ∷ drop (n + 1) bytes) feed)

-- a watch over a line, and then its line feed
pub goes_on : {mid last whole : Watch} (watch : Watch) (bytes front rest : List ℕ) (n : ℕ) →
    IsFirstByte (is_byte line_feed) bytes (Some n) → front ≡ take n bytes → rest ≡ drop (n + 1) bytes →
    mid ≡ watched watch front → last ≡ next_line mid → watched watch bytes ≡ whole → watched last rest ≡ whole
goes_on watch bytes front rest n found fronts rests over ends before =
    let joins : bytes ≡ front ++ line_feed ∷ rest = rw (fronts, rests) (cut_at bytes n found) in
    ap (λ w. watched w rest) (ends ∙ ap next_line over)
    ∙ sym (parts_join watch front (line_feed ∷ rest))
    ∙ rw joins at before

-- without kinds nothing is kept
pub kept_none : (found : List Allow) (line : ℕ) (kinds : List Kind) → length kinds ≡ 0 →
    found ≡ found ++ listed line kinds
kept_none found line [] none = sym (append-nil found)
kept_none found line (kind ∷ kinds) none = absurd (omega arith)

listed_some : (line : ℕ) (kinds : List Kind) → 0 < length kinds →
    allow line kinds ∷ [] ≡ listed line kinds
listed_some line [] some = absurd (omega arith)
listed_some line (kind ∷ kinds) some = refl

-- a comment with kinds is kept
pub kept_one : {A : Type 0} (found : List (AllowComment A)) (comment : AllowComment A) →
    0 < length comment.kinds.items →
    map allow_of (found ++ comment ∷ []) ≡ map allow_of found ++ listed comment.line comment.kinds.items
kept_one found comment some =
    map_push _ found comment
    ∙ ap (λ last. map allow_of found ++ last) (listed_some comment.line comment.kinds.items some)

-- what was read of a line, with these bytes
abbrev run : Part → List ℕ → Part
run part [] = part
run part (byte ∷ bytes) = run (part_after part byte) bytes

-- a comment keeps its bytes
run_comment : (text bytes : List ℕ) → run (Comment text) bytes ≡ Comment (text ++ bytes)
run_comment text [] = ap Comment (sym (append-nil text))
run_comment text (byte ∷ bytes) =
    run_comment (text ++ byte ∷ []) bytes ∙ ap Comment (append_assoc text (byte ∷ []) bytes)

-- another line stays one
run_other : (bytes : List ℕ) → run Other bytes ≡ Other
run_other [] = refl
run_other (byte ∷ bytes) = run_other bytes

kinds_if : (white is_hash : Bool) (byte : ℕ) (bytes : List ℕ) → is_white byte ≡ white → (byte == hash) ≡ is_hash →
    part_kinds (run White bytes) ≡ line_kinds bytes →
    part_kinds (run White (byte ∷ bytes)) ≡ line_kinds (byte ∷ bytes)
kinds_if true is_hash byte bytes blank other later = rw blank later
kinds_if false true byte bytes blank other later = rw (blank, other) (ap part_kinds (run_comment [] bytes))
kinds_if false false byte bytes blank other later = rw (blank, other) (ap part_kinds (run_other bytes))

-- the kinds that a line allows, byte by byte
run_kinds : (line : List ℕ) → part_kinds (run White line) ≡ line_kinds line
run_kinds [] = refl
run_kinds (byte ∷ bytes) = kinds_if (is_white byte) (byte == hash) byte bytes refl refl (run_kinds bytes)

-- the comments of these lines, of the first of which this was read before
abbrev found_in : ℕ → Part → List (List ℕ) → List Allow
found_in line part [] = listed line (part_kinds part) ++ []
found_in line part (first ∷ others) =
    listed line (part_kinds (run part first)) ++ allows_from (one_more line) others

-- the same of whole lines
found_whole : (line : ℕ) (others : List (List ℕ)) → found_in line White others ≡ allows_from line others
found_whole line [] = refl
found_whole line (first ∷ others) =
    ap (λ kinds. listed line kinds ++ allows_from (one_more line) others) (run_kinds first)

-- the same with one more byte
found_onto : (line : ℕ) (part : Part) (byte : ℕ) (others : List (List ℕ)) →
    found_in line (part_after part byte) others ≡ found_in line part (onto_first byte others)
found_onto line part byte [] = refl
found_onto line part byte (first ∷ others) = refl

found_if : (ends : Bool) (line : ℕ) (part : Part) (found : List Allow) (byte : ℕ) (bytes : List ℕ) →
    (byte == line_feed) ≡ ends →
    ((next : ℕ) (after : Part) (more : List Allow) →
    (with_end (watched (at next after more) bytes)).found ≡ more ++ found_in next after (lines bytes)) →
    (with_end (watched (at line part found) (byte ∷ bytes))).found ≡ found ++ found_in line part (lines (byte ∷ bytes))
found_if true line part found byte bytes is later =
    let here = listed line (part_kinds part) in
    let next = found_in (one_more line) White (lines bytes) in
    let step : stepped (at line part found) byte ≡ at (one_more line) White (found ++ here) = rw is refl in
    ap (λ w. (with_end (watched w bytes)).found) step
    ∙ later (one_more line) White (found ++ here)
    ∙ append_assoc found here next
    ∙ ap (λ others. found ++ (here ++ others)) (found_whole (one_more line) (lines bytes))
    ∙ ap (λ all. found ++ found_in line part all) (sym (slice_split-cons_yes (λ b. b == line_feed) byte bytes is))
found_if false line part found byte bytes is later =
    let step : stepped (at line part found) byte ≡ at line (part_after part byte) found = rw is refl in
    ap (λ w. (with_end (watched w bytes)).found) step
    ∙ later line (part_after part byte) found
    ∙ ap (λ all. found ++ all) (found_onto line part byte (lines bytes))
    ∙ ap (λ all. found ++ found_in line part all) (sym (slice_split-cons_no (λ b. b == line_feed) byte bytes is))

-- what is found behind a watch are the comments of the lines that follow
found_by : (bytes : List ℕ) (line : ℕ) (part : Part) (found : List Allow) →
    (with_end (watched (at line part found) bytes)).found ≡ found ++ found_in line part (lines bytes)
found_by [] line part found = ap (λ all. found ++ all) (sym (append-nil (listed line (part_kinds part))))
found_by (byte ∷ bytes) line part found =
    found_if (byte == line_feed) line part found byte bytes refl (found_by bytes)

-- what is found in a file of which this was read before
abbrev found_from : Part → List ℕ → List Allow
found_from part file = (with_end (watched (at 1 part []) file)).found

swapped : (a b : ℕ) → (a == b) ≡ false → (b == a) ≡ false
swapped a b h = ne_eqb b a (λ same. eqb-false a b h (sym same))

-- a byte leads from two parts to the same watch, where both allow the same and lead to the same part
steps_alike : (part other : Part) (byte : ℕ) → part_kinds part ≡ part_kinds other →
    part_after part byte ≡ part_after other byte → stepped (at 1 part []) byte ≡ stepped (at 1 other []) byte
steps_alike part other byte kinds after =
    let put : List Kind → Part → Watch =
    λ all next. if byte == line_feed then at (one_more 1) White ([] ++ listed 1 all) else at 1 next [] in
    ap (λ all. put all (part_after part byte)) kinds ∙ ap (put (part_kinds other)) after

third : (is : Bool) (byte : ℕ) (file : List ℕ) → (byte == 0xBF) ≡ is →
    found_from Start (0xEF ∷ 0xBB ∷ byte ∷ file) ≡ found_from White (without_mark (0xEF ∷ 0xBB ∷ byte ∷ file))
third true byte file is = rw (eqb-true byte 0xBF is) refl
third false byte file is =
    let none : without_mark (0xEF ∷ 0xBB ∷ byte ∷ file) ≡ 0xEF ∷ 0xBB ∷ byte ∷ file = rw (swapped byte 0xBF is) refl in
    ap (λ w. (with_end (watched w file)).found) (steps_alike MarkSecond Other byte refl (rw is refl))
    ∙ ap (found_from White) (sym none)

second : (is : Bool) (byte : ℕ) (file : List ℕ) → (byte == 0xBB) ≡ is →
    found_from Start (0xEF ∷ byte ∷ file) ≡ found_from White (without_mark (0xEF ∷ byte ∷ file))
second true byte [] is = rw (eqb-true byte 0xBB is) refl
second true byte (next ∷ file) is = rw (eqb-true byte 0xBB is) (third (next == 0xBF) next file refl)
second false byte file is =
    let none : without_mark (0xEF ∷ byte ∷ file) ≡ 0xEF ∷ byte ∷ file = rw (swapped byte 0xBB is) refl in
    ap (λ w. (with_end (watched w file)).found) (steps_alike MarkFirst Other byte refl (rw is refl))
    ∙ ap (found_from White) (sym none)

first : (is : Bool) (byte : ℕ) (file : List ℕ) → (byte == 0xEF) ≡ is →
    found_from Start (byte ∷ file) ≡ found_from White (without_mark (byte ∷ file))
first true byte [] is = rw (eqb-true byte 0xEF is) refl
first true byte (next ∷ file) is = rw (eqb-true byte 0xEF is) (second (next == 0xBB) next file refl)
first false byte file is =
    let none : without_mark (byte ∷ file) ≡ byte ∷ file = rw (swapped byte 0xEF is) refl in
    ap (λ w. (with_end (watched w file)).found) (steps_alike Start White byte refl (rw is refl))
    ∙ ap (found_from White) (sym none)

-- a byte order mark at the start of a file is passed by
from_start : (file : List ℕ) → found_from Start file ≡ found_from White (without_mark file)
from_start [] = refl
from_start (byte ∷ file) = first (byte == 0xEF) byte file refl

-- what is found in a file are its comments that allow kinds
pub finds_comments : (file : List ℕ) → (with_end (watched fresh file)).found ≡ allow_comments file
finds_comments file =
    let text = without_mark file in
    from_start file ∙ found_by text 1 White [] ∙ found_whole 1 (lines text)
