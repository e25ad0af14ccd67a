-- What systemd can read.
use Rattle.std.proofs.Common.{◌≡◌, ◌∙◌, ℕ, Bool, true, false, not, ◌&&◌, ◌||◌, List, [], ◌∷◌, ◌++◌, inl, inr, refl}
use Rattle.std.proofs.Common.{arith, map}
use Rattle.std.specs.Prelude.{◌==◌, Some, None, if◌then◌else◌, is_none, IsTrue}
use Rattle.std.specs.Str.{is_utf8, chars}
use Rattle.std.proofs.lemmas.Bool.{cases_Bool}
use Rattle.std.proofs.lemmas.Str.{chars-nil, IsUtf8-from_is_utf8}
use Rattle.dotenvy_format.specs.Characters.{backslash, double_quote, equals_sign, hash, line_feed, single_quote}
use Rattle.dotenvy_exporter.specs.declared.target.Target.TheVariants as target
use Rattle.dotenvy_exporter.specs.Laws.{AllGivable}
use Rattle.dotenvy_exporter.specs.Shell.{is_shell_name}
use Rattle.dotenvy_exporter.specs.Systemd.{Place, BeforeName, Name, BeforeValue, Value, Escaped, Single, Double}
use Rattle.dotenvy_exporter.specs.Systemd.{DoubleEscaped, Comment, CommentEscaped, assignments}
use Rattle.dotenvy_exporter.specs.Systemd.{is_end, is_special, is_white}
use Rattle.dotenvy_exporter.specs.Systemd.{put, systemd_reads_bytes, then_put, named, has_noncharacter, is_taken, are_taken}
use Rattle.dotenvy_exporter.specs.Systemd.{assigned, characters_of, systemd_refusal}
use Rattle.dotenvy_exporter.specs.Texts.{Pair, has, same, semicolon}
use Rattle.dotenvy_exporter.proofs.ShellHolds.{Givable}
use Rattle.dotenvy_exporter.proofs.Tests.{and_left, and_right, join_clean, not_is, or_left, or_right, picked}
use Rattle.dotenvy_exporter.proofs.TextBytes.{has_character}

-- no value has a NUL
abbrev AreClean : List Pair → Type 0
AreClean [] = Unit {0}
AreClean ((name, value) ∷ pairs) = (has 0 value ≡ false) × AreClean pairs

one : (c : ℕ) → (c == 0) ≡ false → has 0 (c ∷ []) ≡ false
one c h = rw h refl

-- values of a file without a NUL have none
values_clean : (place : Place) (n v w text : List ℕ) → has 0 v ≡ false → has 0 w ≡ false → has 0 text ≡ false →
    AreClean (assignments place n v w text)
values_clean BeforeName n v w [] hv hw ht = tt
values_clean Name n v w [] hv hw ht = tt
values_clean BeforeValue n v w [] hv hw ht = (hv, tt)
values_clean Value n v w [] hv hw ht = (hv, tt)
values_clean Escaped n v w [] hv hw ht = (hv, tt)
values_clean Single n v w [] hv hw ht = (hv, tt)
values_clean Double n v w [] hv hw ht = (hv, tt)
values_clean DoubleEscaped n v w [] hv hw ht = (hv, tt)
values_clean Comment n v w [] hv hw ht = tt
values_clean CommentEscaped n v w [] hv hw ht = tt
values_clean BeforeName n v w (c ∷ cs) hv hw ht =
    let later = or_right (c == 0) (has 0 cs) ht in
    picked AreClean (c == hash || c == semicolon) (assignments Comment [] [] [] cs) _
    (λ h. values_clean Comment [] [] [] cs refl refl later)
    (λ h. picked AreClean (is_white c) (assignments BeforeName [] [] [] cs) (assignments Name (c ∷ []) [] [] cs)
    (λ k. values_clean BeforeName [] [] [] cs refl refl later)
    (λ k. values_clean Name (c ∷ []) [] [] cs refl refl later))
values_clean Name n v w (c ∷ cs) hv hw ht =
    let own = one c (or_left (c == 0) (has 0 cs) ht) in
    let later = or_right (c == 0) (has 0 cs) ht in
    picked AreClean (is_end c) (assignments BeforeName [] [] [] cs) _
    (λ h. values_clean BeforeName [] [] [] cs refl refl later)
    (λ h. picked AreClean (c == equals_sign) (assignments BeforeValue n [] [] cs) _
    (λ k. values_clean BeforeValue n [] [] cs refl refl later)
    (λ k. picked AreClean (is_white c) (assignments Name n [] (w ++ c ∷ []) cs) (assignments Name (n ++ (w ++ c ∷
    [])) [] [] cs)
    (λ l. values_clean Name n [] (w ++ c ∷ []) cs refl (join_clean 0 w (c ∷ []) hw own) later)
    (λ l. values_clean Name (n ++ (w ++ c ∷ [])) [] [] cs refl refl later)))
values_clean BeforeValue n v w (c ∷ cs) hv hw ht =
    let own = one c (or_left (c == 0) (has 0 cs) ht) in
    let later = or_right (c == 0) (has 0 cs) ht in
    picked AreClean (is_end c) ((n, v) ∷ assignments BeforeName [] [] [] cs) _
    (λ h. (hv, values_clean BeforeName [] [] [] cs refl refl later))
    (λ h. picked AreClean (c == single_quote) (assignments Single n v [] cs) _
    (λ k. values_clean Single n v [] cs hv refl later)
    (λ k. picked AreClean (c == double_quote) (assignments Double n v [] cs) _
    (λ l. values_clean Double n v [] cs hv refl later)
    (λ l. picked AreClean (c == backslash) (assignments Escaped n v [] cs) _
    (λ m. values_clean Escaped n v [] cs hv refl later)
    (λ m. picked AreClean (is_white c) (assignments BeforeValue n v [] cs) (assignments Value n (v ++ c ∷ []) [] cs)
    (λ o. values_clean BeforeValue n v [] cs hv refl later)
    (λ o. values_clean Value n (v ++ c ∷ []) [] cs (join_clean 0 v (c ∷ []) hv own) refl later)))))
values_clean Value n v w (c ∷ cs) hv hw ht =
    let own = one c (or_left (c == 0) (has 0 cs) ht) in
    let later = or_right (c == 0) (has 0 cs) ht in
    picked AreClean (is_end c) ((n, v) ∷ assignments BeforeName [] [] [] cs) _
    (λ h. (hv, values_clean BeforeName [] [] [] cs refl refl later))
    (λ h. picked AreClean (c == backslash) (assignments Escaped n (v ++ w) [] cs) _
    (λ k. values_clean Escaped n (v ++ w) [] cs (join_clean 0 v w hv hw) refl later)
    (λ k. picked AreClean (is_white c) (assignments Value n v (w ++ c ∷ []) cs) (assignments Value n (v ++ (w ++ c
    ∷ [])) [] cs)
    (λ l. values_clean Value n v (w ++ c ∷ []) cs hv (join_clean 0 w (c ∷ []) hw own) later)
    (λ l. values_clean Value n (v ++ (w ++ c ∷ [])) [] cs
    (join_clean 0 v (w ++ c ∷ []) hv (join_clean 0 w (c ∷ []) hw own)) refl later)))
values_clean Escaped n v w (c ∷ cs) hv hw ht =
    let own = one c (or_left (c == 0) (has 0 cs) ht) in
    let later = or_right (c == 0) (has 0 cs) ht in
    let grown = picked (λ u. has 0 u ≡ false) (is_end c) v (v ++ c ∷ []) (λ h. hv) (λ h. join_clean 0 v (c ∷ [])
    hv own) in
    values_clean Value n (if is_end c then v else v ++ c ∷ []) [] cs grown refl later
values_clean Single n v w (c ∷ cs) hv hw ht =
    let own = one c (or_left (c == 0) (has 0 cs) ht) in
    let later = or_right (c == 0) (has 0 cs) ht in
    picked AreClean (c == single_quote) (assignments BeforeValue n v [] cs) (assignments Single n (v ++ c ∷ []) [] cs)
    (λ h. values_clean BeforeValue n v [] cs hv refl later)
    (λ h. values_clean Single n (v ++ c ∷ []) [] cs (join_clean 0 v (c ∷ []) hv own) refl later)
values_clean Double n v w (c ∷ cs) hv hw ht =
    let own = one c (or_left (c == 0) (has 0 cs) ht) in
    let later = or_right (c == 0) (has 0 cs) ht in
    picked AreClean (c == double_quote) (assignments BeforeValue n v [] cs) _
    (λ h. values_clean BeforeValue n v [] cs hv refl later)
    (λ h. picked AreClean (c == backslash) (assignments DoubleEscaped n v [] cs) (assignments Double n (v ++ c ∷
    []) [] cs)
    (λ k. values_clean DoubleEscaped n v [] cs hv refl later)
    (λ k. values_clean Double n (v ++ c ∷ []) [] cs (join_clean 0 v (c ∷ []) hv own) refl later))
values_clean DoubleEscaped n v w (c ∷ cs) hv hw ht =
    let own = one c (or_left (c == 0) (has 0 cs) ht) in
    let later = or_right (c == 0) (has 0 cs) ht in
    let kept : has 0 (backslash ∷ c ∷ []) ≡ false = own in
    let grown = picked (λ u. has 0 u ≡ false) (is_special c) (v ++ c ∷ [])
    (if c == line_feed then v else v ++ backslash ∷ c ∷ []) (λ h. join_clean 0 v (c ∷ []) hv own)
    (λ h. picked (λ u. has 0 u ≡ false) (c == line_feed) v (v ++ backslash ∷ c ∷ []) (λ k. hv)
    (λ k. join_clean 0 v (backslash ∷ c ∷ []) hv kept)) in
    values_clean Double n
    (if is_special c then v ++ c ∷ [] else if c == line_feed then v else v ++ backslash ∷ c ∷ []) [] cs grown refl
    later
values_clean Comment n v w (c ∷ cs) hv hw ht =
    let later = or_right (c == 0) (has 0 cs) ht in
    picked AreClean (c == backslash) (assignments CommentEscaped [] [] [] cs) _
    (λ h. values_clean CommentEscaped [] [] [] cs refl refl later)
    (λ h. picked AreClean (is_end c) (assignments BeforeName [] [] [] cs) (assignments Comment [] [] [] cs)
    (λ k. values_clean BeforeName [] [] [] cs refl refl later)
    (λ k. values_clean Comment [] [] [] cs refl refl later))
values_clean CommentEscaped n v w (c ∷ cs) hv hw ht =
    values_clean Comment [] [] [] cs refl refl (or_right (c == 0) (has 0 cs) ht)

-- the pair of these bytes can be given, or has no name of a variable
abbrev is_givable : Pair → Bool
is_givable pair =
    is_none (systemd_refusal (characters_of pair)) || not (is_shell_name (characters_of pair).0)

-- each of them
abbrev AreGivable : List Pair → Type 0
AreGivable [] = Unit {0}
AreGivable (pair ∷ pairs) = IsTrue (is_givable pair) × AreGivable pairs

-- bytes without a NUL that systemd takes have characters without one
characters_clean : (bytes : List ℕ) → is_taken bytes ≡ true → has 0 bytes ≡ false → has 0 (chars bytes) ≡ false
characters_clean bytes taken clean =
    has_character 0 bytes (omega arith) (IsUtf8-from_is_utf8 bytes (and_left (is_utf8 bytes)
    (not (has_noncharacter (chars bytes))) taken)) ∙ clean

-- a value without a NUL that systemd takes makes a pair of this name that can be given
value_givable : (name value : List ℕ) → is_taken value ≡ true → has 0 value ≡ false → is_givable (name, value) ≡ true
value_givable name value taken clean =
    let nul = characters_clean value taken clean in
    let none = not_is (has_noncharacter (chars value))
    (and_right (is_utf8 value) (not (has_noncharacter (chars value))) taken) in
    elim (cases_Bool (is_shell_name (chars name))) [ inl is ↦ rw (is, nul, none) refl | inr other ↦ rw other refl ]

-- no variable has an empty name
empty_givable : (value : List ℕ) → is_givable ([], value) ≡ true
empty_givable value = rw chars-nil refl

-- also where the name ends before its first byte
named_givable : (name value : List ℕ) → is_taken value ≡ true → has 0 value ≡ false →
    is_givable (named (name, value)) ≡ true
named_givable [] value taken clean = empty_givable value
named_givable (c ∷ name) value taken clean =
    picked (λ pair. is_givable pair ≡ true) (c == equals_sign) ([], name ++ equals_sign ∷ value) (c ∷ name, value)
    (λ h. empty_givable (name ++ equals_sign ∷ value)) (λ h. value_givable (c ∷ name) value taken clean)

-- pairs put one after another keep that
put_givable : (name value : List ℕ) (pairs : List Pair) → is_givable (name, value) ≡ true → AreGivable pairs →
    AreGivable (put (name, value) pairs)
put_givable name value [] h are = (h, tt)
put_givable name value ((other, old) ∷ pairs) h are =
    picked AreGivable (same other name) ((name, value) ∷ pairs) ((other, old) ∷ put (name, value) pairs)
    (λ k. (h, are.1)) (λ k. (are.0, put_givable name value pairs h are.1))

then_givable : (done pairs : List Pair) → AreGivable done → AreClean pairs → are_taken pairs ≡ true →
    AreGivable (then_put done pairs)
then_givable done [] are clean taken = are
then_givable done ((name, value) ∷ pairs) are clean taken =
    let both = and_left (is_taken name && is_taken value) (are_taken pairs) taken in
    let own = and_right (is_taken name) (is_taken value) both in
    then_givable (put (named (name, value)) done) pairs
    (put_givable (named (name, value)).0 (named (name, value)).1 done (named_givable name value own clean.0) are)
    clean.1 (and_right (is_taken name && is_taken value) (are_taken pairs) taken)

-- so do their characters
all_givable : (pairs : List Pair) → AreGivable pairs → AllGivable target.Systemd (map characters_of pairs)
all_givable [] are = tt
all_givable ((name, value) ∷ pairs) are = (are.0, all_givable pairs are.1)

-- systemd reads only pairs that it can be given, and names that no variable has
pub systemd_holds : (bytes : List ℕ) → Givable target.Systemd (systemd_reads_bytes bytes)
systemd_holds bytes =
    let found = assignments BeforeName [] [] [] bytes in
    picked (Givable target.Systemd) (has 0 bytes) None (assigned found)
    (λ h. tt)
    (λ clean. picked (Givable target.Systemd) (are_taken found) (Some (map characters_of (then_put [] found))) None
    (λ taken. all_givable (then_put [] found)
    (then_givable [] found tt (values_clean BeforeName [] [] [] bytes refl refl clean) taken))
    (λ h. tt))
