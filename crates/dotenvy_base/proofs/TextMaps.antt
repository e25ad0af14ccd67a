-- A map of strings, and the map of their bytes.
use Rattle.std.proofs.Common.{◌≡◌, ℕ, Bool, true, false, cond, List, [], ◌∷◌, ◌++◌, filter, T, refl}
use Rattle.std.proofs.Common.{sym, ◌∙◌, ap, arith}
use Rattle.std.proofs.lemmas.List.{map-append, append-nil}
use Rattle.std.proofs.lemmas.List.Elements.{filter-append}
use Rattle.std.specs.Option.{option_or, unwrap_or}
use Rattle.std.proofs.lemmas.Option.{none-some}
use Rattle.std.specs.Prelude.{string_bytes, Some, option_map, IsTrue}
use Rattle.std.specs.Prelude.{is_some, Result, Ok, Err, IfOk}
use Rattle.std.specs.List.{AllByRecursion, AllZip}
use Rattle.std.specs.List.Sorted.{IsStrictlySortedBy}
use Rattle.std.specs.Map.{lookup, keys_of}
use Rattle.std.specs.BTreeMap.{is_at, insert_entry}
use Rattle.std.specs.String.{string_cmp}
use Rattle.std.specs.Ordering.{nat_cmp}
use Rattle.std.proofs.lemmas.Cmp.{nat_list_cmp_total}
use Rattle.std.specs.Cmp.Lexicographic.{slice_cmp}
use Rattle.std.specs.FinMap.{get-empty, get, insert, entries, from_entries, from_sorted, find, put}
use Rattle.std.specs.FinMap.{is_sorted, get-from_entries, get-from_sorted, entries-from_sorted}
use Rattle.std.specs.FinMap.{get-insert, same_map, from_entries_push, contains_key}
use Rattle.std.specs.FinMap.{slice_cmp-IsAntisymmetric, nat_cmp-IsAntisymmetric}
use Rattle.std.specs.FinMap.Entries.{below_all, find-put}
use Rattle.std.specs.declared.string.String.{String}
use Rattle.std.specs.declared.cmp.Ordering.{Ordering}
use Rattle.std.specs.declared.cmp.Ordering.TheVariants.{Less, Equal}
use Rattle.dotenvy_base.specs.Environment.{text_entries, Texts, Env, IsEnvironment, KeepsNames}
use Rattle.dotenvy_base.specs.Environment.{name_ok, value_ok, pair_ok, env_of}

-- the byte order of names
abbrev pub bytes_cmp : List ℕ → List ℕ → Ordering
bytes_cmp = slice_cmp nat_cmp

-- the map of the pairs of strings, by their bytes; the first pair of a name counts
abbrev pub of_strings : {A : Type 0} → List (String A × String A) → Texts
of_strings es = from_entries (text_entries es)

-- names that tie in the byte order are the same
pub tied_names : (q k : List ℕ) → bytes_cmp q k ≡ Equal → q ≡ k
tied_names = slice_cmp-IsAntisymmetric nat_cmp-IsAntisymmetric

-- maps that have the same for each name are the same
same_texts : (m n : Texts) → ((q : List ℕ) → get m q ≡ get n q) → m ≡ n
same_texts = same_map nat_list_cmp_total tied_names

-- finding a name among the bytes of pairs gives the bytes of the first value whose name has these bytes
find-texts : {A : Type 0} (q : List ℕ) (es : List (String A × String A)) →
    find bytes_cmp q (text_entries es)
    ≡ option_map string_bytes (lookup (is_at (λ k. bytes_cmp q (string_bytes k))) es)
find-texts q [] = refl
find-texts q (e ∷ es) = rw (find-texts q es) (grind arith)

-- what a look-up by the bytes q answers
pub get-strings : {A : Type 0} (q : List ℕ) (es : List (String A × String A)) →
    get (of_strings es) q ≡ option_map string_bytes (lookup (is_at (λ k. bytes_cmp q (string_bytes k))) es)
get-strings q es = rw (get-from_entries nat_list_cmp_total) (find-texts q es)

-- putting a pair in its place among strings, by their bytes, is putting its bytes in place among theirs
put-texts : {A : Type 0} (k v : String A) (es : List (String A × String A)) →
    text_entries (insert_entry string_cmp es k v)
    ≡ put bytes_cmp (string_bytes k) (string_bytes v) (text_entries es)
put-texts k v [] = refl
put-texts k v (e ∷ es) = rw (← put-texts k v es) (grind arith)

-- an insertion among the strings
pub insert-strings : {A : Type 0} (k v : String A) (es : List (String A × String A)) →
    of_strings (insert_entry string_cmp es k v) ≡ insert (of_strings es) (string_bytes k) (string_bytes v)
insert-strings k v es = same_texts _ _ (λ q.
    simp (
      get-insert {X = List ℕ} nat_list_cmp_total,
      get-from_entries {X = List ℕ} nat_list_cmp_total,
      put-texts k v es,
    )
    (find-put bytes_cmp nat_list_cmp_total q (string_bytes k) (string_bytes v) (text_entries es)))

-- a name that comes before those of all the pairs does so by its bytes
below-texts : {A : Type 0} (k : String A) (es : List (String A × String A)) →
    AllByRecursion (λ y. string_cmp k y ≡ Less) (keys_of es) →
    T (below_all bytes_cmp (string_bytes k) (text_entries es))
below-texts k [] h = tt
below-texts k (e ∷ es) h = rw h.0 (below-texts k es h.1)

-- pairs whose names strictly ascend are in the byte order of their names
sorted-texts : {A : Type 0} (es : List (String A × String A)) → IsStrictlySortedBy string_cmp (keys_of es) →
    T (is_sorted bytes_cmp (text_entries es))
unfolding IsStrictlySortedBy
sorted-texts [] h = tt
sorted-texts (e ∷ es) h = grind (arith, below-texts e.0 es, sorted-texts es)

-- the entries in order are those of the map of bytes
pub entries-strings : {A : Type 0} (es : List (String A × String A)) → IsStrictlySortedBy string_cmp (keys_of es) →
    entries (of_strings es) ≡ text_entries es
entries-strings es h =
    let s = sorted-texts es h in
    ap entries (same_texts (of_strings es) (from_sorted (text_entries es))
    (λ q. get-from_entries nat_list_cmp_total (text_entries es) q
    ∙ sym (get-from_sorted bytes_cmp (text_entries es) q s)))
    ∙ entries-from_sorted bytes_cmp (text_entries es) s

-- clones have the same bytes
pub text_entries-clones : {A : Type 0} (es fs : List (String A × String A)) →
    AllZip (λ p q. (string_bytes q.0 ≡ string_bytes p.0) × (string_bytes q.1 ≡ string_bytes p.1)) es fs →
    text_entries fs ≡ text_entries es
text_entries-clones [] fs h = grind arith
text_entries-clones (e ∷ es) fs h = grind (arith, text_entries-clones es)

-- no name at all is good
pub good-empty : (loaded : Bool) → IsEnvironment (record { names = from_entries []; loaded = loaded })
good-empty loaded k v h = absurd (none-some v (sym (get-empty bytes_cmp k) ∙ h))

-- a good name and a good value keep a good map good
pub good-insert : (m : Texts) (loaded : Bool) (k v : List ℕ) →
    IsEnvironment (record { names = m; loaded = loaded }) → IsTrue (name_ok k) → IsTrue (value_ok v) →
    IsEnvironment (record { names = insert m k v; loaded = loaded })
good-insert m loaded k v good name value q w found =
    let entry = rw (get-insert nat_list_cmp_total m k v q) at found in
    grind (arith, good q w, tied_names q k)

-- whether a name is among the strings
pub contains-strings : {A : Type 0} (k : String A) (es : List (String A × String A)) →
    contains_key (of_strings es) (string_bytes k) ≡ is_some (lookup (is_at (string_cmp k)) es)
contains-strings k es = rw get-strings (grind arith)

-- a pair that is inserted where its name is absent
pub insert-absent : {A : Type 0} (k v : String A) (es : List (String A × String A)) →
    of_strings (insert_entry string_cmp es k (unwrap_or (lookup (is_at (string_cmp k)) es) v))
    ≡ cond (contains_key (of_strings es) (string_bytes k)) (of_strings es)
    (insert (of_strings es) (string_bytes k) (string_bytes v))
insert-absent k v es = rw (insert-strings, get-strings) (same_texts _ _ (λ q.
    grind (
      arith,
      get-insert {X = List ℕ} nat_list_cmp_total,
      get-strings,
      tied_names q (string_bytes k),
    )))

-- the strings after such an insertion are an environment again
pub good-entered : {A : Type 0} (k v : String A) (old : List (String A × String A)) (loaded : Bool)
    {new : List (String A × String A)} →
    new ≡ insert_entry string_cmp old k (unwrap_or (lookup (is_at (string_cmp k)) old) v) →
    IsEnvironment (env_of old loaded) → IsTrue (name_ok (string_bytes k)) → IsTrue (value_ok (string_bytes v)) →
    IsEnvironment (env_of new loaded)
good-entered k v old loaded entered good name value = rw (entered, insert-absent)
    (elim (contains_key (of_strings old) (string_bytes k)) as (λ b. IsEnvironment (record {
      names = cond b (of_strings old) (insert (of_strings old) (string_bytes k) (string_bytes v));
      loaded = loaded;
    })) [ true ↦ good | false ↦ good-insert (of_strings old) loaded _ _ good name value ])

-- they are the same environment, if the name was there
pub kept-entered : {A : Type 0} (k v : String A) (old : List (String A × String A))
    {new : List (String A × String A)} {loaded : Bool} {env : Env} →
    new ≡ insert_entry string_cmp old k (unwrap_or (lookup (is_at (string_cmp k)) old) v) →
    env_of old loaded ≡ env → contains_key env.names (string_bytes k) ≡ true → env_of new loaded ≡ env
kept-entered k v old entered is there =
    let here = rw (← is) at there in rw (entered, insert-absent, here) is

-- they are the environment with the pair, if the name was absent
pub absent-entered : {A : Type 0} (k v : String A) (old : List (String A × String A))
    {new : List (String A × String A)} {loaded : Bool} {env : Env} →
    new ≡ insert_entry string_cmp old k (unwrap_or (lookup (is_at (string_cmp k)) old) v) →
    env_of old loaded ≡ env → contains_key env.names (string_bytes k) ≡ false →
    env_of new loaded ≡ record env { names = insert env.names (string_bytes k) (string_bytes v) }
absent-entered k v old entered is absent =
    let here = rw (← is) at absent in
    rw (entered, insert-absent, here)
    (ap (λ e. record { names = insert e.names (string_bytes k) (string_bytes v); loaded = e.loaded }) is)

-- a new name leaves the others
pub keeps_insert : (m n : Texts) (k v : List ℕ) → KeepsNames m n → is_some (get n k) ≡ false →
    KeepsNames m (insert n k v)
keeps_insert m n k v keeps absent q there =
    grind (arith, get-insert nat_list_cmp_total n k v q, keeps q there, tied_names q k)

-- among pairs and more pairs a name has what it has among the first, else what it has among the second
find-append_all : (q : List ℕ) (es fs : List (List ℕ × List ℕ)) →
    find bytes_cmp q (es ++ fs) ≡ option_or (find bytes_cmp q es) (find bytes_cmp q fs)
find-append_all q [] fs = refl
find-append_all q (e ∷ es) fs = rw (find-append_all q es fs) (grind arith)

-- a name that is there already adds nothing at the end
find_again : (es : List (List ℕ × List ℕ)) (k v q : List ℕ) → is_some (find bytes_cmp k es) ≡ true →
    find bytes_cmp q (es ++ (k, v) ∷ []) ≡ find bytes_cmp q es
find_again es k v q there =
    grind (arith, find-append_all q es ((k, v) ∷ []), tied_names q k)

-- the map of pairs keeps the first value of a name
pub from_entries_again : (es : List (List ℕ × List ℕ)) (k v : List ℕ) →
    is_some (get (from_entries {R = bytes_cmp} es) k) ≡ true →
    from_entries {R = bytes_cmp} (es ++ (k, v) ∷ []) ≡ from_entries es
from_entries_again es k v there = same_texts _ _ (λ q. simp (get-from_entries {X = List ℕ} nat_list_cmp_total)
    (find_again es k v q (rw (get-from_entries nat_list_cmp_total) at there)))

-- a new name at the end is inserted
pub from_entries_new : (es : List (List ℕ × List ℕ)) (k v : List ℕ) →
    is_some (get (from_entries {R = bytes_cmp} es) k) ≡ false →
    from_entries {R = bytes_cmp} (es ++ (k, v) ∷ []) ≡ insert (from_entries es) k v
from_entries_new es k v absent =
    from_entries_push nat_list_cmp_total tied_names es k v
    (let none = rw (get-from_entries nat_list_cmp_total) at absent in grind arith)

-- the good pairs, by their bytes
abbrev pub good_pairs : {A : Type 0} → List (String A × String A) → List (List ℕ × List ℕ)
good_pairs pairs = filter pair_ok (text_entries pairs)

-- the first good pair of each name
abbrev pub of_pairs : {A : Type 0} → List (String A × String A) → Texts
of_pairs pairs = from_entries (good_pairs pairs)

-- a pair that is not good is skipped
pub pairs-passed_by : {A : Type 0} (names : Texts) (pairs : List (String A × String A)) (k v : String A) →
    names ≡ of_pairs pairs → pair_ok (string_bytes k, string_bytes v) ≡ false →
    names ≡ of_pairs (pairs ++ (k, v) ∷ [])
pairs-passed_by names pairs k v is bad = rw is (simp (map-append, filter-append, bad, append-nil))

-- a good pair of a name that is there is skipped
pub pairs-again : {A : Type 0} (names : Texts) (pairs : List (String A × String A)) (k v : String A) →
    names ≡ of_pairs pairs → pair_ok (string_bytes k, string_bytes v) ≡ true →
    contains_key names (string_bytes k) ≡ true → names ≡ of_pairs (pairs ++ (k, v) ∷ [])
pairs-again names pairs k v is good there = rw is (simp (map-append, filter-append, good)
    (sym (from_entries_again (good_pairs pairs) (string_bytes k) (string_bytes v) (rw is at there))))

-- a good pair of a new name is inserted
pub pairs-new : {A : Type 0} (names : Texts) (pairs : List (String A × String A)) (k v : String A) →
    names ≡ of_pairs pairs → pair_ok (string_bytes k, string_bytes v) ≡ true →
    contains_key names (string_bytes k) ≡ false →
    insert names (string_bytes k) (string_bytes v) ≡ of_pairs (pairs ++ (k, v) ∷ [])
pairs-new names pairs k v is good absent = rw is (simp (map-append, filter-append, good)
    (sym (from_entries_new (good_pairs pairs) (string_bytes k) (string_bytes v) (rw is at absent))))

-- a found pair of the good ones is good
good_found : (pairs : List (List ℕ × List ℕ)) (k v : List ℕ) → find bytes_cmp k (filter pair_ok pairs) ≡ Some v →
    IsTrue (name_ok k) × IsTrue (value_ok v)
good_found [] k v h = absurd (none-some v h)
good_found (p ∷ pairs) k v h =
    grind (arith, good_found pairs k v, tied_names k p.0)

-- an environment of the good pairs is a good one
pub good-pairs : {A E : Type 0} (pairs : List (String A × String A)) (made : Result Env E) →
    IfOk made (λ e. e.names ≡ of_pairs pairs) → IfOk made IsEnvironment
good-pairs pairs (Ok e) h = λ k v found.
    good_found (text_entries pairs) k v (rw (h, get-from_entries nat_list_cmp_total) at found)
good-pairs pairs (Err e) h = tt
