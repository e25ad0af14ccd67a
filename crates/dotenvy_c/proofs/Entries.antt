-- The entries of a block.
use Rattle.std.proofs.Common.{◌≡◌, ◌<◌, ◌+◌, ◌==◌, ℕ, Bool, true, false, List, [], ◌∷◌, ◌++◌, length, take, drop}
use Rattle.std.proofs.Common.{get_or, refl, ap, ◌∙◌, arith}
use Rattle.std.specs.Prelude.{None, Some, string_bytes, IsTrue}
use Rattle.std.specs.Str.{IsUtf8, is_utf8}
use Rattle.std.specs.List.{flat_map, list_all, position_or_len, before_first, after_first}
use Rattle.std.specs.declared.string.String.{String}
use Rattle.std.proofs.lemmas.Bool.{lt-ltb}
use Rattle.std.proofs.lemmas.Str.{IsUtf8-from_is_utf8, IsUtf8-string_bytes, is_utf8-from_IsUtf8}
use Rattle.std.proofs.lemmas.List.{map_push, append_assoc, append-nil}
use Rattle.std.proofs.lemmas.List.Elements.{All-from_get_or}
use Rattle.std.proofs.lemmas.List.Splits.{slice_split_none, slice_split_first}
use Rattle.std.proofs.lemmas.List.Sums.{position_or_len_is}
use Rattle.dotenvy.specs.Environment.{name_separator, name_ok, text_entries, value_ok}
use Rattle.memchr.specs.Find.{IsFirstByte, is_byte}
use Rattle.dotenvy_c.specs.Block.{is_nul, is_equals, entry_of, entry_pairs, block_pairs, is_block_pair}

false_unless : (b : Bool) → ¬ (b ≡ true) → b ≡ false
false_unless true denied = absurd (denied refl)
false_unless false denied = refl

pub is_no_utf8 : (bs : List ℕ) → ¬ (IsUtf8 bs) → is_utf8 bs ≡ false
is_no_utf8 bs denied = false_unless (is_utf8 bs) (λ e. denied (IsUtf8-from_is_utf8 bs e))

-- what is no text has no pair
pub no_text : (entry : List ℕ) → ¬ (IsUtf8 entry) → entry_pairs entry ≡ []
no_text entry denied = rw (is_no_utf8 entry denied) refl

-- a text with an equals sign has the pair around the first one
pub one_pair : (entry : List ℕ) → IsUtf8 entry → position_or_len is_equals entry < length entry →
    entry_pairs entry ≡ (before_first is_equals entry, after_first is_equals entry) ∷ []
one_pair entry utf8 lt =
    rw (is_utf8-from_IsUtf8 entry utf8, lt-ltb (position_or_len is_equals entry) (length entry) lt) refl

-- the pair of an entry was added
pub added : {A : Type 0} (old new : List (String A × String A)) (name value : String A) (entry : List ℕ) →
    new ≡ old ++ (name, value) ∷ [] → IsUtf8 entry → position_or_len is_equals entry < length entry →
    string_bytes name ≡ before_first is_equals entry → string_bytes value ≡ after_first is_equals entry →
    text_entries new ≡ text_entries old ++ entry_pairs entry
added old new name value entry items utf8 lt named valued =
    rw (items, one_pair entry utf8 lt) (map_push _ old (name, value) ∙ rw (named, valued) refl)

-- the first NUL stands here
first_nul : (bs : List ℕ) (i : ℕ) → IsFirstByte (is_byte 0) bs (Some i) → position_or_len is_nul bs ≡ i
first_nul bs i first =
    position_or_len_is is_nul bs i 0 (let h = first.0.high in omega (arith, h))
    (λ k lt. false_unless (get_or bs k 0 == 0) (first.0.before k (omega arith) lt)) (λ _. first.1)

-- a block is its first entry and the block behind it
cut_block : (bs : List ℕ) (i : ℕ) → IsFirstByte (is_byte 0) bs (Some i) →
    block_pairs bs ≡ entry_pairs (take i bs) ++ block_pairs (drop (i + 1) bs)
cut_block bs i first =
    let at = first_nul bs i first in
    let high = first.0.high in
    rw at at (ap (flat_map entry_pairs) (slice_split_first is_nul bs 0 (omega (arith, at, high))))

-- a block without a NUL is one entry
last_block : (bs : List ℕ) → IsFirstByte (is_byte 0) bs None → block_pairs bs ≡ entry_pairs bs
last_block bs none =
    ap (flat_map entry_pairs)
    (slice_split_none is_nul bs
    (All-from_get_or (λ b. is_nul b ≡ false) bs 0
    (λ k lt. false_unless (get_or bs k 0 == 0) (none k (omega arith) lt))))
    ∙ append-nil (entry_pairs bs)

-- the entries up to a NUL were added
pub entry_added : {new whole : List (List ℕ × List ℕ)} (old : List (List ℕ × List ℕ)) (rest front left : List ℕ)
    (at : ℕ) →
    new ≡ old ++ entry_pairs front → front ≡ take at rest → IsFirstByte (is_byte 0) rest (Some at) →
    old ++ block_pairs rest ≡ whole → left ≡ drop (at + 1) rest → new ++ block_pairs left ≡ whole
entry_added old rest front left at grown fronts first before lefts =
    rw (grown, fronts, lefts, append_assoc, ← (cut_block rest at first)) before

-- the last entry was added
pub last_added : (old new whole : List (List ℕ × List ℕ)) (rest : List ℕ) → new ≡ old ++ entry_pairs rest →
    IsFirstByte (is_byte 0) rest None → old ++ block_pairs rest ≡ whole → new ≡ whole
last_added old new whole rest grown none before = rw (grown, ← (last_block rest none)) before

-- a pair of good strings, with others that fit a block, fits a block
pub more_fits : {A : Type 0} (name value : String A) (left rest : List (List ℕ × List ℕ)) →
    left ≡ (string_bytes name, string_bytes value) ∷ rest → IsTrue (name_ok (string_bytes name)) →
    IsTrue (value_ok (string_bytes value)) → list_all is_block_pair rest ≡ true →
    list_all is_block_pair left ≡ true
more_fits name value left rest is named valued others =
    let name_utf8 = is_utf8-from_IsUtf8 (string_bytes name) (IsUtf8-string_bytes name) in
    let value_utf8 = is_utf8-from_IsUtf8 (string_bytes value) (IsUtf8-string_bytes value) in
    rw (is, named, valued, name_utf8, value_utf8) others

-- with one entry more in front of those that are left the block is the same
pub one_more : (block name value : List ℕ) {grown whole : List ℕ} (left rest : List (List ℕ × List ℕ)) →
    left ≡ (name, value) ∷ rest → grown ≡ (((block ++ name) ++ name_separator ∷ []) ++ value) ++ 0 ∷ [] →
    block ++ flat_map entry_of left ≡ whole → grown ++ flat_map entry_of rest ≡ whole
one_more block name value {grown = grown} left rest is adds before =
    let joins : grown ++ flat_map entry_of rest ≡ block ++ (entry_of (name, value) ++ flat_map entry_of rest) =
    rw adds (simp append_assoc) in
    joins ∙ rw is at before
