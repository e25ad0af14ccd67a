-- Files and optional files that are merged are there once, each kind in its order.
use Rattle.std.proofs.lemmas.List.{drop-drop, drop_more, length-map, map-append, take-append-drop}
use Rattle.std.proofs.lemmas.Option.{get_or_from_slice_get, slice_get-map, slice_get_read}
use Rattle.std.proofs.Common.{◌≡◌, ℕ, ◌+◌, ◌<◌, suc, zero, arith, append_assoc, get_or, length, Bool, true, false, not, List, [], ◌∷◌, ◌++◌, ap, drop, map, refl, sym, take, ◌∙◌}
use Rattle.std.specs.List.{filter}
use Rattle.clap.specs.Words.{Text}
use Rattle.dotenvy_export_command.specs.Files.{At, count_before, each, is_before, merged}
use Rattle.dotenvy_export_command.specs.Laws.{MergedOnce}

-- the names of the files that have to be there
abbrev names : List (Text × Bool) → List Text
names files = map (λ file. file.0) (filter (λ file. not file.1) files)

-- the names of those that may be absent
abbrev optional_names : List (Text × Bool) → List Text
optional_names files = map (λ file. file.0) (filter (λ file. file.1) files)

-- optional files in front add no file that has to be there
names_front : (front : List At) (rest : List (Text × Bool)) → names (each true front ++ rest) ≡ names rest
names_front [] rest = refl
names_front (file ∷ front) rest = names_front front rest

-- they come first among those that may be absent
optional_front : (front : List At) (rest : List (Text × Bool)) →
    optional_names (each true front ++ rest) ≡ map (λ file. file.1) front ++ optional_names rest
optional_front [] rest = refl
optional_front (file ∷ front) rest = ap (λ others. file.1 ∷ others) (optional_front front rest)

-- optional files alone
names_each : (files : List At) → names (each true files) ≡ []
names_each [] = refl
names_each (file ∷ files) = names_each files

optional_each : (files : List At) → optional_names (each true files) ≡ map (λ file. file.1) files
optional_each [] = refl
optional_each (file ∷ files) = ap (λ others. file.1 ∷ others) (optional_each files)

-- a list that is cut has its parts
cut : (count : ℕ) (files : List At) →
    map (λ file. file.1) (take count files) ++ map (λ file. file.1) (drop count files) ≡ map (λ file. file.1) files
cut count files =
    sym (map-append (λ file. file.1) (take count files) (drop count files))
    ∙ ap (map (λ file. file.1)) (take-append-drop count files)

merged_names : (files optional : List At) → names (merged files optional) ≡ map (λ file. file.1) files
merged_names [] optional = names_each optional
merged_names (file ∷ files) optional =
    let count = count_before file.0 optional in
    names_front (take count optional) ((file.1, false) ∷ merged files (drop count optional))
    ∙ ap (λ others. file.1 ∷ others) (merged_names files (drop count optional))

merged_optional : (files optional : List At) → optional_names (merged files optional) ≡ map (λ file. file.1) optional
merged_optional [] optional = optional_each optional
merged_optional (file ∷ files) optional =
    let count = count_before file.0 optional in
    optional_front (take count optional) ((file.1, false) ∷ merged files (drop count optional))
    ∙ ap (λ others. map (λ file. file.1) (take count optional) ++ others) (merged_optional files (drop count optional))
    ∙ cut count optional

-- each kind is there once, in its order
pub merged_once : MergedOnce
merged_once files optional = (merged_names files optional, merged_optional files optional)

-- the files that are left, merged behind those that are there, once a file and the optional ones before it are there
pub merge_more : (front : List (Text × Bool)) (file : At) (files optional : List At) (next n : ℕ) →
    n ≡ count_before file.0 (drop next optional) →
    ((front ++ each true (take n (drop next optional))) ++ (file.1, false) ∷ [])
    ++ merged files (drop (next + n) optional) ≡ front ++ merged (file ∷ files) (drop next optional)
merge_more front file files optional next n is =
    let left = drop next optional in
    append_assoc (front ++ each true (take n left)) ((file.1, false) ∷ []) (merged files (drop (next + n) optional))
    ∙ append_assoc front (each true (take n left)) ((file.1, false) ∷ merged files (drop (next + n) optional))
    ∙ ap (λ rest. front ++ (each true (take n left) ++ (file.1, false) ∷ merged files rest))
    (sym (drop-drop n next optional))
    ∙ ap (λ k. front ++ (each true (take k left) ++ (file.1, false) ∷ merged files (drop k left))) is

-- how many of some files are before a place, where the first is
count_first : (place : ℕ) (file : At) (files : List At) → is_before place file ≡ true →
    count_before place (file ∷ files) ≡ suc (count_before place files)
count_first place file files before = rw before (omega arith)

-- where the first is not
count_none : (place : ℕ) (file : At) (files : List At) → is_before place file ≡ false →
    count_before place (file ∷ files) ≡ 0
count_none place file files not = rw not refl

-- a file that is before a place is one of those that are
pub before_counts : (place : ℕ) (file : At) (optional : List At) (next : ℕ) → next < length optional →
    get_or optional next file ≡ file → is_before place file ≡ true →
    next + count_before place (drop next optional) ≡ (next + 1) + count_before place (drop (next + 1) optional)
before_counts place file optional next inside is before =
    let counted = count_first place file (drop (next + 1) optional) before in
    rw (drop_more optional next file inside, is) (omega (arith, counted))

-- and comes first among them
pub before_joins : (front : List (Text × Bool)) (place : ℕ) (file : At) (optional : List At) (next : ℕ) →
    next < length optional → get_or optional next file ≡ file → is_before place file ≡ true →
    (front ++ (file.1, true) ∷ [])
    ++ each true (take (count_before place (drop (next + 1) optional)) (drop (next + 1) optional))
    ≡ front ++ each true (take (count_before place (drop next optional)) (drop next optional))
before_joins front place file optional next inside is before =
    rw (drop_more optional next file inside, is, count_first place file (drop (next + 1) optional) before)
    (append_assoc front ((file.1, true) ∷ [])
    (each true (take (count_before place (drop (next + 1) optional)) (drop (next + 1) optional))))

-- none is where the next is not
pub none_before : (place : ℕ) (file : At) (optional : List At) (next : ℕ) → next < length optional →
    get_or optional next file ≡ file → is_before place file ≡ false → count_before place (drop next optional) ≡ 0
none_before place file optional next inside is after =
    rw (drop_more optional next file inside, is) (count_none place file (drop (next + 1) optional) after)

-- what is behind the first files, by the places of all
pub drop_map : {A B : Type 0} (f : A → B) (n : ℕ) (xs : List A) → drop n (map f xs) ≡ map f (drop n xs)
drop_map f zero xs = refl
drop_map f (suc n) [] = refl
drop_map f (suc n) (x ∷ xs) = drop_map f n xs

-- a file that is looked up is one of those that are placed
pub looked_up : {A B : Type 0} (f : A → B) (all : List A) (next : ℕ) (file : A) →
    (next < length all) × ((other : A) → file ≡ get_or all next other) →
    (next < length (map f all)) × (get_or (map f all) next (f file) ≡ f file)
looked_up f all next file found =
    let there = slice_get_read all (length all) next file refl found.0 (found.1 file) in (
      grind (arith, length-map, found.0),
      get_or_from_slice_get (map f all) next (f file) (f file) (rw (slice_get-map f all next, there) refl),
    )
