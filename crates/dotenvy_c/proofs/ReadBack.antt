-- The block of an environment reads back.
use Rattle.std.proofs.Common.{◌≡◌, ℕ, Bool, true, false, List, [], ◌∷◌, ◌++◌, length, refl, sym, ap, ◌∙◌, arith}
use Rattle.std.proofs.Common.{filter}
use Rattle.std.proofs.Common.{lit<, append_assoc, append-nil, length-append}
use Rattle.std.specs.Prelude.{◌&&◌, not}
use Rattle.std.specs.Str.{IsUtf8, is_utf8}
use Rattle.std.specs.List.{All, flat_map, list_all, list_any, slice_split, position_or_len}
use Rattle.std.specs.FinMap as fin
use Rattle.std.proofs.Math.Seq.{get_or-append_seam, take-append_seam, drop-append-add}
use Rattle.std.proofs.lemmas.List.{get_or_append_left}
use Rattle.std.proofs.lemmas.Str.{IsUtf8-nil, IsUtf8-append, IsUtf8-from_ascii, IsUtf8-from_is_utf8}
use Rattle.std.proofs.lemmas.Str.{is_utf8-from_IsUtf8}
use Rattle.std.proofs.lemmas.Str.Ascii.{IsAscii-cons, IsAscii-nil}
use Rattle.std.proofs.lemmas.List.Elements.{All-append, All-cons, All-nil, All-get_or}
use Rattle.std.proofs.lemmas.List.Splits.{slice_split_at}
use Rattle.std.proofs.lemmas.List.Sums.{position_or_len_is}
use Rattle.std.proofs.lemmas.Bool.{and_parts, or_parts, not-true}
use Rattle.std.proofs.lemmas.Cmp.{nat_list_cmp_total}
use Rattle.dotenvy.specs.Environment.{Texts, name_separator, name_ok, pair_ok, value_ok}
use Rattle.dotenvy_c.specs.Block.{FitsBlock, block_names, block_of, entry_of, entry_pairs}
use Rattle.dotenvy_c.proofs.Entries.{one_pair}
use Rattle.dotenvy_c.specs.Block.{is_block_pair, is_equals, is_nul}

-- a pair that fits a block has a good name and a good value, and both are UTF-8
fits_parts : (name value : List ℕ) → is_block_pair (name, value) ≡ true →
    ((name_ok name ≡ true) × (value_ok value ≡ true)) × ((is_utf8 name ≡ true) × (is_utf8 value ≡ true))
fits_parts name value fits =
    let both = and_parts (pair_ok (name, value)) (is_utf8 name && is_utf8 value) fits in
    (and_parts (name_ok name) (value_ok value) both.0, and_parts (is_utf8 name) (is_utf8 value) both.1)

-- where no element passes a test, each fails it
all_fail : (p : ℕ → Bool) (bs : List ℕ) → list_any p bs ≡ false → All (λ b. p b ≡ false) bs
all_fail p [] h = All-nil (λ b. p b ≡ false)
all_fail p (b ∷ bs) h =
    let both = or_parts (p b) (list_any p bs) h in
    All-cons (λ c. p c ≡ false) b bs both.0 (all_fail p bs both.1)

-- the name, the sign and the value of an entry, without its NUL
abbrev body_of : List ℕ × List ℕ → List ℕ
body_of (name, value) = name ++ name_separator ∷ value

-- a name has no equals sign, and no NUL
name_clean : (name : List ℕ) → name_ok name ≡ true →
    All (λ b. is_equals b ≡ false) name × All (λ b. is_nul b ≡ false) name
name_clean [] h = (All-nil (λ b. is_equals b ≡ false), All-nil (λ b. is_nul b ≡ false))
name_clean (b ∷ bs) h =
    let both = and_parts (not (list_any is_equals (b ∷ bs))) (not (list_any is_nul (b ∷ bs))) h in
    (all_fail is_equals (b ∷ bs) (not-true _ both.0), all_fail is_nul (b ∷ bs) (not-true _ both.1))

-- nor has an entry before its end
body_no_nul : (name value : List ℕ) → name_ok name ≡ true → value_ok value ≡ true →
    All (λ b. is_nul b ≡ false) (body_of (name, value))
body_no_nul name value named valued =
    All-append (λ b. is_nul b ≡ false) name (name_separator ∷ value) (name_clean name named).1
    (All-cons (λ b. is_nul b ≡ false) name_separator value refl (all_fail is_nul value (not-true _ valued)))

-- the first equals sign is after the name
first_equals : (name value : List ℕ) → name_ok name ≡ true →
    position_or_len is_equals (body_of (name, value)) ≡ length name
first_equals name value named =
    let size = length-append name (name_separator ∷ value) in
    position_or_len_is is_equals (body_of (name, value)) (length name) 0 (omega (arith, size))
    (λ k below. ap is_equals (get_or_append_left name (name_separator ∷ value) 0 k below)
    ∙ All-get_or (λ b. is_equals b ≡ false) name k 0 below (name_clean name named).0)
    (λ within. ap is_equals (get_or-append_seam name name_separator value 0))

-- an entry of UTF-8 is UTF-8
body_utf8 : (name value : List ℕ) → is_utf8 name ≡ true → is_utf8 value ≡ true → IsUtf8 (body_of (name, value))
body_utf8 name value named valued =
    IsUtf8-append name (name_separator ∷ value) (IsUtf8-from_is_utf8 name named)
    (IsUtf8-append (name_separator ∷ []) value
    (IsUtf8-from_ascii (name_separator ∷ []) (IsAscii-cons name_separator [] (lit< tt) IsAscii-nil))
    (IsUtf8-from_is_utf8 value valued))

-- the pair of an entry
body_pair : (name value : List ℕ) → is_block_pair (name, value) ≡ true →
    entry_pairs (body_of (name, value)) ≡ (name, value) ∷ []
body_pair name value fits =
    let parts = fits_parts name value fits in
    let at = first_equals name value parts.0.0 in
    let size = length-append name (name_separator ∷ value) in
    one_pair (body_of (name, value)) (body_utf8 name value parts.1.0 parts.1.1) (omega (arith, at, size))
    ∙ rw (at, take-append_seam name (name_separator ∷ value), drop-append-add name (name_separator ∷ value) 1) refl

-- a block that begins with an entry is cut after it
cut_entry : (name value rest : List ℕ) → is_block_pair (name, value) ≡ true →
    slice_split is_nul (entry_of (name, value) ++ rest) ≡ body_of (name, value) ∷ slice_split is_nul rest
cut_entry name value rest fits =
    let good = (fits_parts name value fits).0 in
    let same : entry_of (name, value) ++ rest ≡ body_of (name, value) ++ 0 ∷ rest = simp append_assoc in
    rw same (slice_split_at is_nul (body_of (name, value)) 0 rest (body_no_nul name value good.0 good.1) refl)

-- cut at its NULs, the entries of pairs are their bodies, and nothing after the last one
cut_entries : (pairs : List (List ℕ × List ℕ)) → list_all is_block_pair pairs ≡ true →
    flat_map entry_pairs (slice_split is_nul (flat_map entry_of pairs)) ≡ pairs
cut_entries [] h = append-nil (entry_pairs []) ∙ rw (is_utf8-from_IsUtf8 [] IsUtf8-nil) refl
cut_entries ((name, value) ∷ pairs) h =
    let both = and_parts (is_block_pair (name, value)) (list_all is_block_pair pairs) h in
    rw (cut_entry name value (flat_map entry_of pairs) both.0, body_pair name value both.0, cut_entries pairs both.1)
    refl

-- good pairs are all kept
all_kept : (pairs : List (List ℕ × List ℕ)) → list_all is_block_pair pairs ≡ true → filter pair_ok pairs ≡ pairs
all_kept [] h = refl
all_kept (pair ∷ pairs) h =
    let both = and_parts (is_block_pair pair) (list_all is_block_pair pairs) h in
    let good = and_parts (pair_ok pair) (is_utf8 pair.0 && is_utf8 pair.1) both.0 in
    rw (good.0, all_kept pairs both.1) refl

-- the map of the entries of a map is that map
same_entries : (names : Texts) → fin.from_entries (fin.entries names) ≡ names
same_entries names =
    fin.same_map nat_list_cmp_total (fin.slice_cmp-IsAntisymmetric fin.nat_cmp-IsAntisymmetric) _ names
    (λ q. fin.get-from_entries nat_list_cmp_total (fin.entries names) q ∙ sym (fin.get-entries names q))

-- the block of an environment that fits one stands for that environment
pub block_reads_back : (names : Texts) → FitsBlock names → block_names (block_of names) ≡ names
block_reads_back names fits =
    rw (cut_entries (fin.entries names) fits, all_kept (fin.entries names) fits) (same_entries names)
