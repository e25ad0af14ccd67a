-- The words of a comment.
use Rattle.std.proofs.Common.{◌≡◌, ℕ, ◌+◌, ◌<◌, ◌≤◌, suc, Bool, true, false, not, cond, List, [], ◌∷◌}
use Rattle.std.proofs.Common.{length, take, drop, filter, refl, sym, ap, ◌∙◌, arith, subst, length-drop, zero-add}
use Rattle.std.specs.Prelude.{if◌then◌else◌, Option, Some, None, unwrap_or}
use Rattle.std.specs.List.{find, list_all, position_from, position_or_len, slice_split, onto_first}
use Rattle.std.specs.Str.{IsUtf8, bytes_eq, chars, is_utf8}
use Rattle.std.proofs.Math.Utf8.{encode}
use Rattle.std.proofs.lemmas.Bool.{and_parts, false_from_ne_true}
use Rattle.std.proofs.lemmas.Grind.{common_steps}
use Rattle.std.proofs.lemmas.List.Splits.{slice_split-cons_no, slice_split-cons_yes}
use Rattle.std.proofs.lemmas.Slice.Eq.{bytes_eq-Decides}
use Rattle.std.proofs.lemmas.Str.{IsUtf8-from_is_utf8, is_utf8-from_IsUtf8}
use Rattle.dotenvy_findings.specs.declared.kind.Kind.{Kind}
use Rattle.dotenvy_findings.specs.Comments.{allowed, comment_kinds, is_order, is_some_text, is_white, named}
use Rattle.dotenvy_findings.specs.Comments.{without_white, words}
use Rattle.dotenvy_findings.specs.Kinds.{kind_name}
use Rattle.dotenvy_findings.specs.Named.{kind_named, kinds}

-- a search for a byte that passes, with places counted from n, tells how many stand before it
len_from : (test : ℕ → Bool) (n : ℕ) (bytes : List ℕ) →
    unwrap_or (position_from test n bytes) (n + length bytes) ≡ n + position_or_len test bytes
len_from test n [] = refl
len_from test n (b ∷ bytes) = grind (arith, len_from test (n + 1) bytes)

-- a search for a byte that passes tells how many stand before it
pub position_is_len : (test : ℕ → Bool) (bytes : List ℕ) (found : Option ℕ) → found ≡ position_from test 0 bytes →
    unwrap_or found (length bytes) ≡ position_or_len test bytes
position_is_len test bytes found e = rw e (simp zero-add at (len_from test 0 bytes))

first_white : (white : Bool) (byte : ℕ) (bytes : List ℕ) → is_white byte ≡ white →
    words bytes ≡ words (without_white bytes) → words (byte ∷ bytes) ≡ words (without_white (byte ∷ bytes))
first_white true byte bytes is later = rw is later
first_white false byte bytes is later =
    let stays : without_white (byte ∷ bytes) ≡ byte ∷ bytes = rw is refl in
    ap words (sym stays)

-- white space at the start of a text is in no word
pub words_behind : (text : List ℕ) → words text ≡ words (without_white text)
words_behind [] = refl
words_behind (byte ∷ bytes) = first_white (is_white byte) byte bytes refl (words_behind bytes)

begins_if : (white : Bool) (byte b : ℕ) (bytes bs : List ℕ) → is_white byte ≡ white →
    (without_white bytes ≡ b ∷ bs → is_white b ≡ false) → without_white (byte ∷ bytes) ≡ b ∷ bs → is_white b ≡ false
begins_if true byte b bytes bs is later same = later (rw is at same)
begins_if false byte b bytes bs is later same =
    let parts : byte ∷ bytes ≡ b ∷ bs = rw is at same in
    let first : byte ≡ b = cc in
    rw (← first) is

-- what stands behind white space begins with none
begins_word : (text bs : List ℕ) (b : ℕ) → without_white text ≡ b ∷ bs → is_white b ≡ false
begins_word [] bs b same = absurd cc
begins_word (byte ∷ bytes) bs b same =
    begins_if (is_white byte) byte b bytes bs refl (begins_word bytes bs b) same

-- a text grows no longer without white space
white_len : (text : List ℕ) → length (without_white text) ≤ length text
white_len [] = omega arith
white_len (byte ∷ bytes) = let later = white_len bytes in grind (arith, common_steps, later)

-- these parts of a text are its first n bytes, and parts whose words are those of the rest
record IsCut (n : ℕ) (text : List ℕ) (parts : List (List ℕ)) : Type 0 where
  pub later : List (List ℕ)
  pub cut : parts ≡ take n text ∷ later
  pub same : filter is_some_text later ≡ words (drop n text)

one_more : (n : ℕ) → 1 + n ≡ suc n
one_more n = omega arith

cut_more : (white : Bool) (byte n : ℕ) (bytes : List ℕ) → is_white byte ≡ white →
    IsCut n bytes (slice_split is_white bytes) →
    IsCut (cond (not white) (1 + n) 0) (byte ∷ bytes) (slice_split is_white (byte ∷ bytes))
cut_more true byte n bytes is parts = record {
  later = slice_split is_white bytes;
  cut = slice_split-cons_yes is_white byte bytes is;
  same = rw is refl;
}
cut_more false byte n bytes is parts = record {
  later = parts.later;
  cut =
      slice_split-cons_no is_white byte bytes is
      ∙ ap (onto_first byte) parts.cut
      ∙ ap (λ k. take k (byte ∷ bytes) ∷ parts.later) (sym (one_more n));
  same = parts.same ∙ ap (λ k. words (drop k (byte ∷ bytes))) (sym (one_more n));
}

-- a text is cut at its first white space
cut_first : (text : List ℕ) → IsCut (position_or_len is_white text) text (slice_split is_white text)
cut_first [] = record { later = []; cut = refl; same = refl }
cut_first (byte ∷ bytes) =
    cut_more (is_white byte) byte (position_or_len is_white bytes) bytes refl (cut_first bytes)

some_first : (byte n : ℕ) (bytes : List ℕ) → is_some_text (take (1 + n) (byte ∷ bytes)) ≡ true
some_first byte n bytes = rw (one_more n) refl

filter_some : (text : List ℕ) (later : List (List ℕ)) → is_some_text text ≡ true →
    filter is_some_text (text ∷ later) ≡ text ∷ filter is_some_text later
filter_some text later some = rw some refl

-- the first word of a text that begins with one, and the words behind it
first_word : (byte : ℕ) (bytes : List ℕ) → is_white byte ≡ false →
    words (byte ∷ bytes)
    ≡ take (1 + position_or_len is_white bytes) (byte ∷ bytes)
    ∷ words (drop (1 + position_or_len is_white bytes) (byte ∷ bytes))
first_word byte bytes is =
    let n = position_or_len is_white bytes in
    let parts = cut_more false byte n bytes is (cut_first bytes) in
    ap (filter is_some_text) parts.cut
    ∙ filter_some (take (1 + n) (byte ∷ bytes)) parts.later (some_first byte n bytes)
    ∙ ap (λ later. take (1 + n) (byte ∷ bytes) ∷ later) parts.same

-- the first word of what stands behind white space, and what stands behind that word
pub next_word : {front back : List ℕ} {n : ℕ} (text rest : List ℕ) → rest ≡ without_white text → 0 < length rest →
    n ≡ position_or_len is_white rest → front ≡ take n rest → back ≡ drop n rest →
    (front ∷ words back ≡ words text) × (length back < length text)
next_word text [] behind some len fronts backs = absurd (omega arith)
next_word {front} {back} {n} text (byte ∷ bytes) behind some len fronts backs =
    let is : is_white byte ≡ false = begins_word text bytes byte (sym behind) in
    let m = 1 + position_or_len is_white bytes in
    let count : n ≡ m = rw is at len in
    let begins : words (byte ∷ bytes) ≡ words text = ap words behind ∙ sym (words_behind text) in
    let size : length (byte ∷ bytes) ≡ length (without_white text) = ap length behind in
    let short : length (without_white text) ≤ length text = white_len text in (
      rw (fronts, backs, count) (sym (first_word byte bytes is) ∙ begins),
      rw (backs, count) (omega (arith, length-drop m (byte ∷ bytes), size, short)),
    )

-- white space has no words
pub no_word : (text rest : List ℕ) → rest ≡ without_white text → length rest ≡ 0 → [] ≡ words text
no_word text [] behind none = sym (words_behind text ∙ ap words (sym behind))
no_word text (byte ∷ bytes) behind none = absurd (omega arith)

-- without words nothing is allowed
pub allows_none : (all : List (List ℕ)) → [] ≡ all → [] ≡ allowed all
allows_none all none = ap allowed none

-- nor by one word alone
pub allows_one : (all rest : List (List ℕ)) (tool : List ℕ) → tool ∷ rest ≡ all → [] ≡ rest → [] ≡ allowed all
allows_one all rest tool first none = ap (λ later. allowed (tool ∷ later)) none ∙ ap allowed first

-- two words, if they order it, allow the kinds that are named behind them
pub allows_if : (orders : Bool) (all rest names : List (List ℕ)) (tool order : List ℕ) → tool ∷ rest ≡ all →
    order ∷ names ≡ rest → orders ≡ is_order tool order → (if orders then named names else []) ≡ allowed all
allows_if orders all rest names tool order first second is =
    rw is (ap (λ later. allowed (tool ∷ later)) second ∙ ap allowed first)

none_if : (is_text : Bool) (all : List Kind) → [] ≡ all → [] ≡ (if is_text then all else [])
none_if true all none = none
none_if false all none = refl

-- a comment that orders nothing allows nothing
pub orders_none : (text : List ℕ) → [] ≡ allowed (words text) → [] ≡ comment_kinds text
orders_none text none = none_if (is_utf8 text) (allowed (words text)) none

-- a comment that is text allows what it orders
pub orders_in_text : {kinds : List Kind} (text : List ℕ) → IsUtf8 text → kinds ≡ allowed (words text) →
    kinds ≡ comment_kinds text
orders_in_text text utf8 same = rw (is_utf8-from_IsUtf8 text utf8) same

-- a comment that is no text allows nothing
pub orders_in_other : (text : List ℕ) → ¬ IsUtf8 text → [] ≡ comment_kinds text
orders_in_other text other =
    let is : is_utf8 text ≡ false = false_from_ne_true (is_utf8 text) (λ e. other (IsUtf8-from_is_utf8 text e)) in
    rw is refl

found_if : (found : Bool) (p q : Kind → Bool) (y x : Kind) (ys : List Kind) → p y ≡ found → q y ≡ true →
    (find p ys ≡ Some x → (p x ≡ true) × (q x ≡ true)) → find p (y ∷ ys) ≡ Some x → (p x ≡ true) × (q x ≡ true)
found_if true p q y x ys is all later e =
    let some : Some y ≡ Some x = rw is at e in
    let same : y ≡ x = cc in
    (rw (← same) is, rw (← same) all)
found_if false p q y x ys is all later e = later (rw is at e)

-- what is found passes the test, and one that all pass
found_passes : (p q : Kind → Bool) (xs : List Kind) (x : Kind) → list_all q xs ≡ true → find p xs ≡ Some x →
    (p x ≡ true) × (q x ≡ true)
found_passes p q [] x all e = absurd cc
found_passes p q (y ∷ ys) x all e =
    let parts = and_parts (q y) (list_all q ys) all in
    found_if (p y) p q y x ys refl parts.0 (found_passes p q ys x parts.1) e

-- the names of kinds are text
names_are_text : list_all (λ each. is_utf8 (kind_name each)) kinds ≡ true
unfolding is_utf8 chars encode
names_are_text = refl

name_if : (word : List ℕ) (found : Option Kind) → ¬ IsUtf8 word → kind_named word ≡ found → None ≡ found
name_if word None other is = refl
name_if word (Some kind) other is =
    let passes = found_passes (λ each. bytes_eq (kind_name each) word) (λ each. is_utf8 (kind_name each)) kinds kind
    names_are_text is in
    let same : kind_name kind ≡ word = (bytes_eq-Decides (kind_name kind) word).0 passes.0 in
    absurd (other (subst IsUtf8 same (IsUtf8-from_is_utf8 (kind_name kind) passes.1)))

-- what is no text names no kind
pub no_name : (word : List ℕ) → ¬ IsUtf8 word → None ≡ kind_named word
no_name word other = name_if word (kind_named word) other refl
