-- Look-ups by the characters of a name, in maps by its bytes.
use Rattle.std.proofs.Common.{◌≡◌, ℕ, Bool, true, cond, List, Option, Some, sym, ◌∙◌, ap, arith}
use Rattle.std.specs.Prelude.{bytes_eq, encode_utf8_all, option_map, is_none, not, Result}
use Rattle.std.specs.Prelude.{Ok, IfSome, IfOk, IsTrue, string_bytes}
use Rattle.std.specs.Str.{chars, IsUtf8}
use Rattle.std.specs.Ordering.{nat_cmp}
use Rattle.std.specs.Cmp.Lexicographic.{slice_cmp, same_text}
use Rattle.std.specs.Cmp.{eq_by_cmp_equiv}
use Rattle.std.specs.FinMap as fin
use Rattle.std.proofs.lemmas.Cmp.{nat_list_cmp_total}
use Rattle.std.proofs.lemmas.Map.Text.{is_eq-slice_cmp}
use Rattle.std.proofs.lemmas.Str.{encodes-chars, encodes_same}
use Rattle.std.proofs.lemmas.Slice.Eq.{bytes_eq-Decides}
use Rattle.std.proofs.lemmas.Bool.Decides.{same_from_decides}
use Rattle.dotenvy_base.specs.Environment.{Texts}
use Rattle.dotenvy_items.specs.Remembered.{Remembered, recalled}
use Rattle.dotenvy_format.specs.Keys.{is_key}
use Rattle.dotenvy_format.specs.Items.{with_value}
use Rattle.dotenvy_items.specs.Meaning.{by_characters, values_of, recalled_of}
use Rattle.dotenvy_items.specs.LoadsRest.{ChangesKeys}
use Rattle.std.specs.declared.string.String.{String}
use Rattle.std.proofs.lemmas.Str.{IsUtf8-string_bytes}
use Rattle.dotenvy_base.specs.declared.errors.Error.{Error}
use Rattle.dotenvy_items.specs.NextItem.{GivesName}
use Rattle.dotenvy_items.proofs.KeyBytes.{chars-key, name_ok-key}

-- a look-up by bytes that differs at one text alone differs there alone by characters too
changed_text : (old new : List ℕ → Option (List ℕ)) (key : List ℕ) (value : Option (List ℕ)) → IsUtf8 key →
    ((q : List ℕ) → new q ≡ cond (bytes_eq key q) value (old q)) → (name : List ℕ) →
    by_characters new name ≡ cond (bytes_eq (chars key) name) (option_map chars value) (by_characters old name)
changed_text old new key value utf8 change name =
    let is = encodes-chars key utf8 in
    let by_bytes = bytes_eq-Decides key (encode_utf8_all name) in
    let by_chars = bytes_eq-Decides (chars key) name in
    let same : bytes_eq key (encode_utf8_all name) ≡ bytes_eq (chars key) name = same_from_decides _ _ by_bytes
    (λ e. sym is ∙ ap encode_utf8_all (by_chars.0 e), λ e. by_chars.1 (encodes_same (chars key) name (is ∙ e))) in
    rw (change (encode_utf8_all name), same) (grind arith)

-- after an insertion the key has the new value, and each other name what it had
pub get-inserted : {V : Type 0} (m : fin.FinMap (slice_cmp nat_cmp) V) (key : List ℕ) (value : V) (q : List ℕ) →
    fin.get (fin.insert m key value) q ≡ cond (bytes_eq key q) (Some value) (fin.get m q)
get-inserted m key value q =
    let tie = (eq_by_cmp_equiv nat_list_cmp_total).symm q key ∙ is_eq-slice_cmp key q in
    rw (fin.get-insert nat_list_cmp_total m key value q, tie)

-- with a text, or none, inserted under a key, the key recalls that, and every other name what it did
pub recalled-inserted : (m : Remembered) (key : List ℕ) (text : Option (List ℕ)) → IsUtf8 key → (name : List ℕ) →
    recalled_of (fin.insert m key text) name
    ≡ cond (bytes_eq (chars key) name) (option_map chars text) (recalled_of m name)
recalled-inserted m key text utf8 =
    changed_text (recalled m) (recalled (fin.insert m key text)) key text utf8
    (λ q. rw (get-inserted m key text q) (grind arith))

-- a text that is set is the value of its name, and of no other
pub values_of-insert : (names : Texts) (key value : List ℕ) → IsUtf8 key → (name : List ℕ) →
    values_of (fin.insert names key value) name ≡ with_value (values_of names) (chars key) (chars value) name
values_of-insert names key value utf8 =
    changed_text (λ q. fin.get names q) (λ q. fin.get (fin.insert names key value) q) key (Some value) utf8
    (get-inserted names key value)

-- a name is absent by its characters where it is by its bytes
pub is_none-contains : (names : Texts) (key : List ℕ) (found : Bool) → IsUtf8 key →
    found ≡ fin.contains_key names key → is_none (values_of names (chars key)) ≡ not found
is_none-contains names key found utf8 is =
    rw (is, encodes-chars key utf8) (grind arith)

-- where a key is set, the names that are no keys have the values that they had
pub changes_keys-insert : (old names : Texts) (key value : List ℕ) → ChangesKeys old names → IsUtf8 key →
    is_key (chars key) ≡ true → ChangesKeys old (fin.insert names key value)
changes_keys-insert old names key value changes utf8 is name other =
    let itself = chars-key key utf8 is in
    let apart : true ≡ bytes_eq key name → ⊥ = λ h. (let same = same_text key name h in cc) in
    rw (get-inserted names key value name) (grind (arith, apart, changes name other))

-- a pair with a key has a name
pub names_of_keys : {A : Type 0} (item : Option (Result (String A × String A) (Error A))) →
    IfSome item (λ given. IfOk given (λ pair. IsTrue (is_key (chars (string_bytes pair.0))))) → GivesName item
names_of_keys (Some (Ok pair)) keys = name_ok-key (string_bytes pair.0) (IsUtf8-string_bytes pair.0) keys
names_of_keys _ keys = tt
