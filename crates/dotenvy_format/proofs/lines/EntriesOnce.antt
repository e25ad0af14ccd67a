-- Bytes have entries, and have them once: those that are computed, one logical line after another.
use Rattle.std.proofs.lemmas.List.{nil_from_length}
use Rattle.std.proofs.Common.{inl, inr}
use Rattle.std.proofs.lemmas.Bool.Decides.{nat_tests}
use Rattle.std.proofs.lemmas.Bool.{cases_Bool}
use Rattle.std.proofs.Common.{◌≡◌, ℕ, zero, suc, ◌≤◌, ◌<◌, Bool, true, false, List, []}
use Rattle.std.proofs.Common.{◌∷◌, ◌++◌, map, Some, refl, sym, ◌∙◌, ap, arith}
use Rattle.std.proofs.Common.{length, length-drop, drop, cond, Ok}
use Rattle.std.specs.Prelude.{◌≢◌, ◌==◌, encode_utf8_all}
use Rattle.std.specs.List.{flat_map, concat}
use Rattle.std.specs.Str.{is_utf8, chars}
use Rattle.std.specs.declared.io.ErrorKind.TheVariants.{InvalidData}
use Rattle.std.proofs.lemmas.Str.{IsUtf8-from_is_utf8, encodes-chars}
use Rattle.std.proofs.lemmas.List.{append-nil}
use Rattle.std.proofs.Math.Utf8.{encode}
use Rattle.dotenvy_format.specs.declared.dialect.Dialect.{Dialect}
use Rattle.dotenvy_format.specs.PhysicalLines.{no_line_feed, physical_lines, onto_first, line_text}
use Rattle.dotenvy_format.specs.PhysicalLines.{line_texts, AreCut, is_whole_line, is_last_line}
use Rattle.dotenvy_format.specs.LogicalLine.{Logical, Skip, HasText, StaysOpen, Broken, IsNext}
use Rattle.dotenvy_format.specs.Entries.{Entry, Fails, LineParse, Io, AreLogicalLines}
use Rattle.dotenvy_format.specs.Entries.{outcome_entries, Gives, GiveAll, HasEntries}
use Rattle.dotenvy_format.specs.Items.{LookUp, items}
use Rattle.dotenvy_format.specs.Written.{written_text, AreWritable}
use Rattle.dotenvy_format.proofs.lines.Cuts.{encode_some, encode_none, lines-encodes, concat-lines}
pub use Rattle.dotenvy_format.proofs.lines.Cuts.{ten}
use Rattle.dotenvy_format.proofs.lines.NextLine.{one_next, some_lines, cut_rest, last_line, ends_line}
use Rattle.dotenvy_format.proofs.lines.NextLine.{ends_line-append, whole_ends, Lines}
use Rattle.dotenvy_format.proofs.lines.NextLine.{whole_last}
use Rattle.dotenvy_format.proofs.lines.SplitLines.{next_of, next_of-is}
use Rattle.dotenvy_format.proofs.statements.Outcomes.{outcome_of, outcome_of-is, one_outcome}
use Rattle.dotenvy_format.proofs.writing.ReadBackLines.{written_read_back}
use Rattle.dotenvy_format.proofs.writing.WrittenTexts.{keys_of, written_scalars}

-- physical lines as bytes are cut into them are so still without the first k
pub cut_drop : (k : ℕ) (lines : Lines) → AreCut lines → AreCut (drop k lines)
cut_drop zero lines cut = cut
cut_drop (suc k) [] cut = cut
cut_drop (suc k) (l ∷ lines) cut = cut_drop k lines (cut_rest l lines cut)

-- physical lines as bytes are cut into them make at most one list of logical lines
pub one_list : (lines : Lines) (os ps : List Logical) → AreCut lines → AreLogicalLines lines os →
    AreLogicalLines lines ps → os ≡ ps
one_list lines [] [] cut a b = refl
one_list lines [] (p ∷ ps) cut a b = absurd (b.0 a)
one_list lines (o ∷ os) [] cut a b = absurd (a.0 b)
one_list lines (o ∷ os) (p ∷ ps) cut (some, j, x, xs) (other, k, y, ys) =
    let e = one_next lines j k o p some cut x y in
    rw (e.1, one_list (drop k lines) os ps (cut_drop k lines cut) (rw e.0 at xs) ys) refl

-- where there are physical lines, their number is not 0
pub some_length : (lines : Lines) → lines ≢ [] → 0 < length lines
some_length lines some = let h : ¬ (length lines ≡ 0) = λ e. some (nil_from_length lines e) in omega (arith, h)

-- where there are physical lines, the next logical line takes at least one of them
pub next_positive : (lines : Lines) (k : ℕ) (o : Logical) → lines ≢ [] → IsNext lines k o → 0 < k
next_positive lines k Skip some is = omega (arith, is.1)
next_positive lines k (HasText t) some is = some_lines lines k t some is.1
next_positive lines k (StaysOpen t n) some is = let h = some_length lines some in omega (arith, is.1)
next_positive lines k Broken some is = grind arith

-- the logical lines of physical lines, one after another, computed in at most so many steps
abbrev pub lines_of : ℕ → Lines → List Logical
lines_of zero lines = []
lines_of (suc n) [] = []
lines_of (suc n) (line ∷ lines) =
    (next_of (line ∷ lines)).1 ∷ lines_of n (drop (next_of (line ∷ lines)).0 (line ∷ lines))

-- lines as bytes are cut into them, at most n, have the logical lines that are computed in n steps
pub are_lines_of : (n : ℕ) (lines : Lines) → length lines ≤ n → AreCut lines → AreLogicalLines lines (lines_of n lines)
are_lines_of zero [] h cut = refl
are_lines_of zero (line ∷ lines) h cut = absurd (omega arith)
are_lines_of (suc n) [] h cut = refl
are_lines_of (suc n) (line ∷ lines) h cut =
    let k = (next_of (line ∷ lines)).0 in
    let some : line ∷ lines ≢ [] = λ e. cc in
    let is = next_of-is (line ∷ lines) some cut in
    let pos = next_positive (line ∷ lines) k (next_of (line ∷ lines)).1 some is in (
      some,
      k,
      is,
      are_lines_of n (drop k (line ∷ lines)) (omega (arith, length-drop k (line ∷ lines)))
          (cut_drop k (line ∷ lines) cut),
    )

-- at most n physical lines, as bytes are cut into them, make some list of logical lines
pub lines_within : (n : ℕ) (lines : Lines) → length lines ≤ n → AreCut lines →
    (os : List Logical) × AreLogicalLines lines os
lines_within n lines h cut = (lines_of n lines, are_lines_of n lines h cut)

-- the entries of one logical line, computed
abbrev pub logical_entries : (dialect : Dialect) → Logical → List Entry
logical_entries dialect Skip = []
logical_entries dialect (HasText text) = outcome_entries (outcome_of dialect text)
logical_entries dialect (StaysOpen text n) = Fails (LineParse text n) ∷ []
logical_entries dialect Broken = Fails (Io InvalidData) ∷ []

-- a logical line gives the entries that are computed of it
logical_gives : (dialect : Dialect) (line : Logical) → Gives dialect line (logical_entries dialect line)
logical_gives dialect (HasText text) = (outcome_of dialect text, outcome_of-is dialect text, refl)
logical_gives dialect line = refl

-- logical lines give the entries that are computed of each, in order
pub all_give : (dialect : Dialect) (lines : List Logical) →
    GiveAll dialect lines (flat_map (logical_entries dialect) lines)
all_give dialect [] = refl
all_give dialect (line ∷ lines) = (
  logical_entries dialect line,
  flat_map (logical_entries dialect) lines,
  logical_gives dialect line,
  all_give dialect lines,
  refl,
)

-- the entries that a logical line gives are those that are computed of it
gives_once : (dialect : Dialect) (line : Logical) (es : List Entry) → Gives dialect line es →
    es ≡ logical_entries dialect line
gives_once dialect (HasText text) es (x, says, a) =
    rw (a, one_outcome dialect text x (outcome_of dialect text) says (outcome_of-is dialect text)) refl
gives_once dialect line es a = a

-- the entries that logical lines give are those that are computed of each, in order
pub all_once : (dialect : Dialect) (lines : List Logical) (es : List Entry) → GiveAll dialect lines es →
    es ≡ flat_map (logical_entries dialect) lines
all_once dialect [] es a = a
all_once dialect (line ∷ lines) es (x, xs, a, as_given, e) =
    rw (e, gives_once dialect line x a, all_once dialect lines xs as_given) refl

-- lines as bytes are cut into them are so with one character more before them, on the first line if it is no line feed
cut_more : (c : ℕ) (xss : List (List ℕ)) (b : Bool) → (c == 10) ≡ b → AreCut (map Some xss) →
    AreCut (map Some (cond b ((c ∷ []) ∷ xss) (onto_first c xss)))
cut_more c [] b h cut = grind arith
cut_more c ([] ∷ xss) b h cut = grind arith
cut_more c ((x ∷ xs) ∷ xss) b h cut = grind arith

-- of the lines that bytes, or characters, are cut into, each has its line feed, but the last may lack it
cut_bytes : (cs : List ℕ) → AreCut (map Some (physical_lines cs))
cut_bytes [] = tt
cut_bytes (c ∷ cs) = cut_more c (physical_lines cs) (c == 10) refl (cut_bytes cs)

-- bytes without a line feed, if there are any, are one line
pub one_last : (b : ℕ) (bs : List ℕ) → no_line_feed (b ∷ bs) ≡ true → is_last_line (b ∷ bs) ≡ true
one_last b [] h = refl
one_last b (c ∷ bs) h = grind (arith, nat_tests, one_last c bs)

-- where bytes are a text and one line, which may lack its line feed, their characters are one line
last_chars : (line : List ℕ) → is_utf8 line ≡ true → is_last_line line ≡ true → is_last_line (chars line) ≡ true
last_chars line u h =
    let e = encodes-chars line (IsUtf8-from_is_utf8 line u) in
    at (physical_lines (chars line)) (sym (lines-encodes (chars line)) ∙ rw e (last_line line h))
    (concat-lines (chars line)) (cut_bytes (chars line))
  where
    at : (xss : List (List ℕ)) → map encode_utf8_all xss ≡ line ∷ [] → concat xss ≡ chars line →
        AreCut (map Some xss) → is_last_line (chars line) ≡ true
    at [] e f cut = cc
    at (xs ∷ []) e f cut = rw (← f, append-nil) cut
    at (xs ∷ ys ∷ xss) e f cut = cc

-- bytes without a line feed do not end with one
no_end : (bs : List ℕ) → no_line_feed bs ≡ true → ends_line bs ≡ false
no_end [] h = refl
no_end (b ∷ bs) h = grind (arith, nat_tests, no_end bs)

-- a text ends with a line feed just where its bytes do
ends-encodes : (cs : List ℕ) → ends_line (encode_utf8_all cs) ≡ ends_line cs
ends-encodes [] = refl
ends-encodes (c ∷ []) =
    elim (cases_Bool (c == 10)) [
      | inl h ↦ rw (h, ten c [] h) refl
      | inr h ↦ rw (h, append-nil) (no_end (encode c) (encode_none c h))
    ]
ends-encodes (c ∷ d ∷ cs) = at (encode d) (encode_some d) ∙ ends-encodes (d ∷ cs)
  where
    at : (bs : List ℕ) → 0 < length bs →
        ends_line (encode c ++ (bs ++ encode_utf8_all cs)) ≡ ends_line (bs ++ encode_utf8_all cs)
    at [] h = absurd (omega arith)
    at (b ∷ bs) h = ends_line-append (encode c) b (bs ++ encode_utf8_all cs)

-- one line that ends with a line feed is a line with its line feed
last_whole : (t : List ℕ) → is_last_line t ≡ true → ends_line t ≡ true → is_whole_line t ≡ true
last_whole [] h ends = cc
last_whole (c ∷ t) h ends = grind (arith, nat_tests, last_whole t)

-- where bytes are a text and a line with its line feed, their characters are such a line
pub whole_chars : (line : List ℕ) → is_utf8 line ≡ true → is_whole_line line ≡ true → is_whole_line (chars line) ≡ true
whole_chars line u h =
    last_whole (chars line) (last_chars line u (whole_last line h))
    (sym (ends-encodes (chars line)) ∙ rw (encodes-chars line (IsUtf8-from_is_utf8 line u)) (whole_ends line h))

-- lines as bytes are cut into them are so with each as the text that it spells, or as a broken line
cut_texts : (xss : List (List ℕ)) → AreCut (map Some xss) → AreCut (map line_text xss)
cut_texts [] cut = tt
cut_texts (xs ∷ []) cut = grind (arith, last_chars xs)
cut_texts (xs ∷ ys ∷ xss) cut = grind (arith, whole_chars xs, cut_texts (ys ∷ xss))

-- the physical lines of bytes, each a text or a broken line, are cut as lines are
pub cut_line_texts : (bytes : List ℕ) → AreCut (line_texts bytes)
cut_line_texts bytes = cut_texts (physical_lines bytes) (cut_bytes bytes)

-- the entries of physical lines, computed: those of their logical lines, in order
abbrev pub entries_of_lines : (dialect : Dialect) → Lines → List Entry
entries_of_lines dialect lines = flat_map (logical_entries dialect) (lines_of (length lines) lines)

-- bytes have the entries that are computed
pub entries_of-are : (dialect : Dialect) (bytes : List ℕ) →
    HasEntries dialect bytes (entries_of_lines dialect (line_texts bytes))
entries_of-are dialect bytes =
    let lines = line_texts bytes in record {
      lines = lines_of (length lines) lines;
      are_lines = are_lines_of (length lines) lines (omega arith) (cut_line_texts bytes);
      give = all_give dialect (lines_of (length lines) lines);
    }

-- no bytes have no entries
pub entries-none : (dialect : Dialect) → HasEntries dialect [] []
entries-none dialect = record { lines = []; are_lines = refl; give = refl }

-- all bytes have some list of entries
pub entries_exist : (dialect : Dialect) (bytes : List ℕ) → (es : List Entry) × HasEntries dialect bytes es
entries_exist dialect bytes = (entries_of_lines dialect (line_texts bytes), entries_of-are dialect bytes)

-- bytes have at most one list of entries
pub entries_once : (dialect : Dialect) (bytes : List ℕ) (es fs : List Entry) → HasEntries dialect bytes es →
    HasEntries dialect bytes fs → es ≡ fs
entries_once dialect bytes es fs a b =
    let e = one_list (line_texts bytes) a.lines b.lines (cut_line_texts bytes) a.are_lines b.are_lines in
    all_once dialect a.lines es a.give ∙ rw e (sym (all_once dialect b.lines fs b.give))

-- written pairs are read back as themselves, however they are read
pub reads_back_once : (dialect : Dialect) (env : LookUp) (pairs : List (List ℕ × List ℕ)) (es : List Entry) →
    AreWritable pairs → HasEntries dialect (encode_utf8_all (written_text pairs)) es → items env es ≡ map Ok pairs
reads_back_once dialect env pairs es are has =
    let r = written_read_back dialect env pairs (keys_of pairs are) (written_scalars pairs are) in
    ap (items env) (entries_once dialect (encode_utf8_all (written_text pairs)) es r.0 has r.1) ∙ r.2
