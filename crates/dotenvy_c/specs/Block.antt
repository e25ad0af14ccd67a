-- A block of an environment: NAME=VALUE and a NUL, one after the other.
use Rattle.std.specs.Prelude.{ℕ, Bool, ◌&&◌, ◌==◌, List, [], ◌∷◌, ◌++◌, length, nat_lt, filter}
use Rattle.std.specs.Prelude.{IsTrue}
use Rattle.std.specs.Prelude.{if◌then◌else◌}
use Rattle.std.specs.List.{list_all, position_or_len, flat_map, slice_split, before_first}
use Rattle.std.specs.List.{after_first}
use Rattle.std.specs.Str.{is_utf8}
use Rattle.std.specs.FinMap as fin
use Rattle.dotenvy.specs.Environment.{Texts, name_separator, pair_ok}

-- the byte after each entry
abbrev pub is_nul : ℕ → Bool
is_nul b = b == 0

-- the byte between a name and its value
abbrev pub is_equals : ℕ → Bool
is_equals b = b == name_separator

-- the name and the value of an entry, around its first `=`; an entry without one has no pair, nor
-- has one that is not UTF-8
abbrev pub entry_pairs : List ℕ → List (List ℕ × List ℕ)
entry_pairs entry =
    if is_utf8 entry && nat_lt (position_or_len is_equals entry) (length entry)
    then (before_first is_equals entry, after_first is_equals entry) ∷ []
    else []

-- the pairs of a block: of what is before, between and after its NULs
abbrev pub block_pairs : List ℕ → List (List ℕ × List ℕ)
block_pairs block = flat_map entry_pairs (slice_split is_nul block)

-- the environment that a block stands for: the first good pair of a name counts
abbrev pub block_names : List ℕ → Texts
block_names block = fin.from_entries (filter pair_ok (block_pairs block))

-- an entry of a block
abbrev pub entry_of : List ℕ × List ℕ → List ℕ
entry_of (name, value) = name ++ name_separator ∷ (value ++ 0 ∷ [])

-- the block that stands for an environment, in byte order of the names
abbrev pub block_of : Texts → List ℕ
block_of names = flat_map entry_of (fin.entries names)

-- a good name and a good value, both of them UTF-8
abbrev pub is_block_pair : List ℕ × List ℕ → Bool
is_block_pair p = pair_ok p && (is_utf8 p.0 && is_utf8 p.1)

-- a block can stand for this environment: each pair is good, and UTF-8
abbrev pub FitsBlock : Texts → Type 0
FitsBlock names = IsTrue (list_all is_block_pair (fin.entries names))
