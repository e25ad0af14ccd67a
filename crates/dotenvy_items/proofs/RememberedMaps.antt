-- The remembered values as a map of texts.
use Rattle.std.proofs.Common.{◌≡◌, ℕ, List, [], ◌∷◌, map, refl, ◌∙◌, arith}
use Rattle.std.specs.Prelude.{string_bytes, Option, Some, option_map}
use Rattle.std.specs.Str.{bytes_eq}
use Rattle.std.specs.Map.{lookup}
use Rattle.std.specs.HashMap.{HashMap, Updates}
use Rattle.std.specs.String.{string_eq}
use Rattle.std.specs.Ordering.{nat_cmp}
use Rattle.std.proofs.lemmas.Cmp.{nat_list_cmp_total}
use Rattle.std.proofs.lemmas.Map.Text.{is_eq-slice_cmp, hash_map_updates_text}
use Rattle.std.specs.Cmp.Lexicographic.{slice_cmp}
use Rattle.std.specs.FinMap.{get, insert, find, get-from_entries, same_map}
use Rattle.std.specs.FinMap.{slice_cmp-IsAntisymmetric, nat_cmp-IsAntisymmetric}
use Rattle.std.specs.declared.string.String.{String}
use Rattle.dotenvy_items.specs.Remembered.{remembered_of}
use Rattle.dotenvy_items.proofs.KeyLookUps.{get-inserted}

-- among the bytes of entries a name has the bytes of the first value whose key has the name's bytes
found : {A : Type 0} (q : List ℕ) (es : List (String A × Option (String A)))
    →
    find (slice_cmp nat_cmp) q (map (λ p. (string_bytes p.0, option_map string_bytes p.1)) es)
    ≡ option_map (option_map string_bytes) (lookup (λ k. bytes_eq q (string_bytes k)) es)
found q [] = refl
found q (e ∷ es) = rw (is_eq-slice_cmp q (string_bytes e.0), found q es) (grind arith)

-- what is remembered under a name is the first value, by its bytes, whose key has the name's bytes
pub get-remembered : {A : Type 0} (q : List ℕ) (es : List (String A × Option (String A))) →
    get (remembered_of es) q ≡ option_map (option_map string_bytes) (lookup (λ k. bytes_eq q (string_bytes k)) es)
get-remembered q es = get-from_entries nat_list_cmp_total _ q ∙ found q es

-- where a hash map is updated at a key, what it remembers changes by the new value under that key alone
pub insert-remembered : {A S : Type 0} (m n : HashMap (String A) (Option (String A)) S) (k : String A)
    (v : Option (String A)) → Updates string_eq m n k (Some v) →
    remembered_of n.entries ≡ insert (remembered_of m.entries) (string_bytes k) (option_map string_bytes v)
insert-remembered m n k v updates =
    same_map nat_list_cmp_total (slice_cmp-IsAntisymmetric nat_cmp-IsAntisymmetric) _ _ (λ q.
    rw (
      get-remembered q n.entries,
      hash_map_updates_text (string_bytes k) m n (Some v) updates q,
      get-inserted (remembered_of m.entries) (string_bytes k) (option_map string_bytes v) q,
      get-remembered q m.entries,
    ) (grind arith))

-- what the code of remembered values is proved from
pub ruleset remembered_maps = (get-remembered, insert-remembered)
